use Rattle.std.proofs.Common.{◌≡◌, length, sym, refl, ap, ◌∙◌, arith}
use Rattle.ring.proofs.Fronts.{widened}
use Rattle.scheme.specs.Keys.{all_within, key_limit}
use Rattle.key.proofs.key.words.Words.new.Goals as goal
use Rattle.key.proofs.key.words.Words.new.Goals.{After-widen-4}

f_is : (c : After-widen-4) → c.widen.new.words ≡ c.args.f.now
f_is c = c.widen.ensures ∙ widened c.args.f.now _ (omega (arith, c.split_at_mut-f_words.ensures.front_len))

g_is : (c : After-widen-4) → c.widen-2.new.words ≡ c.args.g.now
g_is c = c.widen-2.ensures ∙ widened c.args.g.now _ (omega (arith, c.split_at_mut-g_words.ensures.front_len, c.requires.elements.g_long))

F_is : (c : After-widen-4) → c.widen-3.new.words ≡ c.args.cap_f.now
F_is c = c.widen-3.ensures ∙ widened c.args.cap_f.now _ (omega (arith, c.split_at_mut-cap_f_words.ensures.front_len, c.requires.elements.F_long))

G_is : (c : After-widen-4) → c.widen-4.new.words ≡ c.args.cap_g.now
G_is c =
    c.widen-4.ensures
    ∙ widened c.args.cap_g.now _
    (omega (arith, c.split_at_mut-f_words.ensures.back_len, c.split_at_mut-g_words.ensures.back_len, c.split_at_mut-cap_f_words.ensures.back_len, c.requires.long, c.requires.elements.G_long))

pub invariant_of-result : goal.invariant_of-result
invariant_of-result c =
    let at = (goal.at.invariant_of-result c).After-widen-4 in
    let f = f_is at in
    let g = g_is at in
    let F = F_is at in
    let G = G_is at in
    let four = c.requires.elements in
    record {
      few = omega (arith, ap length f, four.f_words.few);
      long_g = ap length g ∙ four.g_long ∙ sym (ap length f);
      long_cap_f = ap length F ∙ four.F_long ∙ sym (ap length f);
      long_cap_g = ap length G ∙ four.G_long ∙ sym (ap length f);
      small_f = ap (all_within key_limit) f ∙ four.f_words.small;
      small_g = ap (all_within key_limit) g ∙ four.g_words.small;
      small_cap_f = ap (all_within key_limit) F ∙ four.F_words.small;
      small_cap_g = ap (all_within key_limit) G ∙ four.G_words.small;
    }

pub returns : goal.returns
returns c =
    let at = (goal.at.returns c).After-widen-4 in
    let f = f_is at in
    let g = g_is at in
    let F = F_is at in
    let G = G_is at in
    rw (f, g, F, G) refl
