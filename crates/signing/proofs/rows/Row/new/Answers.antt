use Rattle.std.proofs.Common.{◌≡◌, ◌∙◌, arith}
use Rattle.ring.proofs.Fronts.{widened}
use Rattle.signing.proofs.Aparts.{length_apart}
use Rattle.signing.proofs.rows.Row.new.Goals as goal

pub invariant_of-result : goal.invariant_of-result
invariant_of-result c =
    let a_is : c.widen.new.words ≡ c.args.a.now = c.widen.ensures ∙ widened c.args.a.now _ (omega (arith, c.split_at_mut-a_words.ensures.front_len)) in
    let b_is : c.widen-2.new.words ≡ c.args.b.now = c.widen-2.ensures ∙ widened c.args.b.now _ (omega (arith, c.split_at_mut-a_words.ensures.back_len, c.requires.small.same)) in
    rw (a_is, b_is) c.requires.small

pub returns-clause-value : goal.returns-clause-value
returns-clause-value c =
    let a_is : c.widen.new.words ≡ c.args.a.now = c.widen.ensures ∙ widened c.args.a.now _ (omega (arith, c.split_at_mut-a_words.ensures.front_len)) in
    let b_is : c.widen-2.new.words ≡ c.args.b.now = c.widen-2.ensures ∙ widened c.args.b.now _ (omega (arith, c.split_at_mut-a_words.ensures.back_len, c.requires.small.same)) in
    rw (a_is, b_is)

pub returns-clause-long : goal.returns-clause-long
returns-clause-long c =
    let front = c.split_at_mut-a_words.ensures.front_len in
    let back = c.split_at_mut-a_words.ensures.back_len in
    length_apart _ _ _ _ (omega arith) ∙ omega arith
