use Rattle.std.proofs.Common.{◌≡◌, length, Some, sym, refl, ap, ◌∙◌}
use Rattle.std.proofs.lemmas.Result.{err_from_is_err_and}
use Rattle.ring.specs.Classes.{size_of}
use Rattle.ring.specs.Elements.{total}
use Rattle.ring.specs.Faults.{first_failing}
use Rattle.scheme.specs.Keys.{all_within, basis, odd, key_limit}
use Rattle.slip.specs.Slips.{size_named}
use Rattle.key.specs.Fours.{basis_as}
use Rattle.key.specs.Loading.{numbers_in, basis_in, body_tests, sound_tests}
use Rattle.key.specs.Stored.{front}
use Rattle.key.specs.Words.{FourWords}
use Rattle.key.specs.declared.key.words.Words.{Words}
use Rattle.key.proofs.Body.{after_ranges, stops_0, stops_1, stops_2, stops_3, f_odd, four_used, g_odd, sound_is, unit}
use Rattle.key.proofs.KeyTests.{key_element, key_test}
use Rattle.key.proofs.Taking.{front_element, Element}
use Rattle.key.proofs.key.load.decoded.Goals as goal
use Rattle.key.proofs.key.load.decoded.Goals.{After-used-4}

-- the four sections, taken
module _ (c : After-used-4) where
  f_in : Element key_limit (size_of c.args.slip.now.class) (numbers_in c.args.slip.now.file.now 0) c.stored-f.result
  f_in = key_element c.args.slip.now c.requires.kind 0 c.stored-f.result (c.in_ok-tested.ensures.0, c.stored-f.ensures)

  g_in : Element key_limit (size_of c.args.slip.now.class) (numbers_in c.args.slip.now.file.now 1) c.stored-g.result
  g_in = key_element c.args.slip.now c.requires.kind 1 c.stored-g.result (c.in_ok-tested-2.ensures.0, c.stored-g.ensures)

  F_in : Element key_limit (size_of c.args.slip.now.class) (numbers_in c.args.slip.now.file.now 2) c.stored-cap_f.result
  F_in = key_element c.args.slip.now c.requires.kind 2 c.stored-cap_f.result (c.in_ok-tested-3.ensures.0, c.stored-cap_f.ensures)

  G_in : Element key_limit (size_of c.args.slip.now.class) (numbers_in c.args.slip.now.file.now 3) c.stored-cap_g.result
  G_in = key_element c.args.slip.now c.requires.kind 3 c.stored-cap_g.result (c.in_ok-tested-4.ensures.0, c.stored-cap_g.ensures)

  f_is : front c.class-class.result c.stored-f.result ≡ numbers_in c.args.slip.now.file.now 0
  f_is = front_element (numbers_in c.args.slip.now.file.now 0) c.stored-f.result c.class-class.result (ap size_of c.class-class.ensures) f_in

  g_is : front c.class-class.result c.stored-g.result ≡ numbers_in c.args.slip.now.file.now 1
  g_is = front_element (numbers_in c.args.slip.now.file.now 1) c.stored-g.result c.class-class.result (ap size_of c.class-class.ensures) g_in

  F_is : front c.class-class.result c.stored-cap_f.result ≡ numbers_in c.args.slip.now.file.now 2
  F_is = front_element (numbers_in c.args.slip.now.file.now 2) c.stored-cap_f.result c.class-class.result (ap size_of c.class-class.ensures) F_in

  G_is : front c.class-class.result c.stored-cap_g.result ≡ numbers_in c.args.slip.now.file.now 3
  G_is = front_element (numbers_in c.args.slip.now.file.now 3) c.stored-cap_g.result c.class-class.result (ap size_of c.class-class.ensures) G_in

  four_read : FourWords c.used.result.now c.used-2.result.now c.used-3.result.now c.used-4.result.now
  four_read = four_used c.args.slip.now c.stored-f.result c.stored-g.result c.stored-cap_f.result c.stored-cap_g.result f_in g_in F_in G_in c.used.result.now c.used-2.result.now c.used-3.result.now c.used-4.result.now
      (c.used.ensures.value ∙ f_is) (c.used-2.ensures.value ∙ g_is) (c.used-3.ensures.value ∙ F_is) (c.used-4.ensures.value ∙ G_is)

  sound_read : (w : Words) → basis_as w ≡ basis c.used.result.now c.used-2.result.now c.used-3.result.now c.used-4.result.now
      → sound_tests (length w.f.now) (basis_as w) ≡ sound_tests (size_named c.args.slip.now.file.now) (basis_in c.args.slip.now.file.now)
  sound_read = sound_is c.args.slip.now c.stored-f.result c.stored-g.result c.stored-cap_f.result c.stored-cap_g.result f_in g_in F_in G_in c.used.result.now c.used-2.result.now c.used-3.result.now c.used-4.result.now
      (c.used.ensures.value ∙ f_is) (c.used-2.ensures.value ∙ g_is) (c.used-3.ensures.value ∙ F_is) (c.used-4.ensures.value ∙ G_is)

  ranges : first_failing (body_tests c.args.slip.now.file.now) ≡ first_failing (sound_tests (size_named c.args.slip.now.file.now) (basis_in c.args.slip.now.file.now))
  ranges =
      let s = c.args.slip.now in
      after_ranges s.file.now (sym (key_test s c.requires.kind 0) ∙ c.in_ok-tested.ensures.0) (sym (key_test s c.requires.kind 1) ∙ c.in_ok-tested-2.ensures.0) (sym (key_test s c.requires.kind 2) ∙ c.in_ok-tested-3.ensures.0) (sym (key_test s c.requires.kind 3) ∙ c.in_ok-tested-4.ensures.0)

pub returns-in_err-tested : goal.returns-in_err-tested
returns-in_err-tested c =
    let s = c.args.slip.now in
    let p = err_from_is_err_and c.from_residual.result c.from_residual.ensures.1 in
    rw (p.1, p.2) (stops_0 s.file.now _ (sym (key_test s c.requires.kind 0) ∙ c.in_err-tested.ensures))

pub returns-in_err-tested-2 : goal.returns-in_err-tested-2
returns-in_err-tested-2 c =
    let s = c.args.slip.now in
    let none = sym (key_test s c.requires.kind 0) ∙ c.in_ok-tested.ensures.0 in
    let p = err_from_is_err_and c.from_residual-in_err-tested-2.result c.from_residual-in_err-tested-2.ensures.1 in
    rw (p.1, p.2) (stops_1 s.file.now _ none (sym (key_test s c.requires.kind 1) ∙ c.in_err-tested-2.ensures))

pub returns-in_err-tested-3 : goal.returns-in_err-tested-3
returns-in_err-tested-3 c =
    let s = c.args.slip.now in
    let none = sym (key_test s c.requires.kind 0) ∙ c.in_ok-tested.ensures.0 in
    let none-g = sym (key_test s c.requires.kind 1) ∙ c.in_ok-tested-2.ensures.0 in
    let p = err_from_is_err_and c.from_residual-in_err-tested-3.result c.from_residual-in_err-tested-3.ensures.1 in
    rw (p.1, p.2) (stops_2 s.file.now _ none none-g (sym (key_test s c.requires.kind 2) ∙ c.in_err-tested-3.ensures))

pub returns-in_err-tested-4 : goal.returns-in_err-tested-4
returns-in_err-tested-4 c =
    let s = c.args.slip.now in
    let none = sym (key_test s c.requires.kind 0) ∙ c.in_ok-tested.ensures.0 in
    let none-g = sym (key_test s c.requires.kind 1) ∙ c.in_ok-tested-2.ensures.0 in
    let none-F = sym (key_test s c.requires.kind 2) ∙ c.in_ok-tested-3.ensures.0 in
    let p = err_from_is_err_and c.from_residual-in_err-tested-4.result c.from_residual-in_err-tested-4.ensures.1 in
    rw (p.1, p.2) (stops_3 s.file.now _ none none-g none-F (sym (key_test s c.requires.kind 3) ∙ c.in_err-tested-4.ensures))

pub new-elements-requires-clause-elements : goal.new-elements-requires-clause-elements
new-elements-requires-clause-elements c = four_read (goal.at.new-elements-requires-clause-elements c).After-used-4

pub returns-in_err-sound : goal.returns-in_err-sound
returns-in_err-sound c =
    let at = (goal.at.returns-in_err-sound c).After-used-4 in
    let p = err_from_is_err_and c.from_residual-in_err-sound.result c.from_residual-in_err-sound.ensures.1 in
    rw (p.1, p.2) (ranges at ∙ sym (ap first_failing (sound_read at c.new-elements.result c.new-elements.ensures)) ∙ c.in_err-sound.ensures)

pub invariant_of-result : goal.invariant_of-result
invariant_of-result c =
    let at = (goal.at.invariant_of-result c).After-used-4 in
    let s = c.args.slip.now in
    let none = sym (ap first_failing (sound_read at c.new-elements.result c.new-elements.ensures)) ∙ c.in_ok-sound.ensures.0 in
    let f = f_is at in
    let g = g_is at in
    let F = F_is at in
    let G = G_is at in
    let size = ap size_of c.class-class.ensures in
    record {
      small_f = ap (all_within key_limit) f ∙ (f_in at).small;
      small_g = ap (all_within key_limit) g ∙ (g_in at).small;
      small_cap_f = ap (all_within key_limit) F ∙ (F_in at).small;
      small_cap_g = ap (all_within key_limit) G ∙ (G_in at).small;
      odd_f = ap (λ xs. odd (total xs)) f ∙ f_odd s c.stored-f.result c.stored-g.result c.stored-cap_f.result c.stored-cap_g.result (f_in at) (g_in at) (F_in at) (G_in at) none;
      odd_g = ap (λ xs. odd (total xs)) g ∙ g_odd s c.stored-f.result c.stored-g.result c.stored-cap_f.result c.stored-cap_g.result (f_in at) (g_in at) (F_in at) (G_in at) none;
      unit_determinant = rw (f, g, F, G, size) (unit s c.stored-f.result c.stored-g.result c.stored-cap_f.result c.stored-cap_g.result (f_in at) (g_in at) (F_in at) (G_in at) none);
    }

pub returns : goal.returns
unfolding basis_in
returns c =
    let at = (goal.at.returns c).After-used-4 in
    let s = c.args.slip.now in
    let f = f_is at in
    let g = g_is at in
    let F = F_is at in
    let G = G_is at in (
      ranges at ∙ sym (ap first_failing (sound_read at c.new-elements.result c.new-elements.ensures)) ∙ c.in_ok-sound.ensures.0,
      record {
        class = s.named ∙ ap Some (sym c.class-class.ensures);
        basis_is = rw (f, g, F, G) refl;
        elements = record {
          class_is = refl;
          f_is = (f_in at).memory_is;
          g_is = (g_in at).memory_is;
          F_is = (F_in at).memory_is;
          G_is = (G_in at).memory_is;
        };
      },
    )
