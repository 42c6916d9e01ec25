-- The tests of odd sums and determinant, one after the other.
use Rattle.std.proofs.Common.{◌≡◌, ℕ, ◌<◌, true, false, eqb, [], ◌∷◌, Some, None, sym, ap, arith}
use Rattle.std.specs.List.{prefix_len}
use Rattle.std.proofs.lemmas.Bool.{eq-eqb, ne_eqb, eqb-true}
use Rattle.ring.specs.Elements.{total}
use Rattle.ring.specs.Faults.{test, first_failing}
use Rattle.ring.proofs.Firsts.{none_parts}
use Rattle.scheme.specs.Pairs.{is_zero}
use Rattle.scheme.specs.Keys.{Basis, odd}
use Rattle.key.specs.Loading.{excess, determinant_test, sound_tests}
use Rattle.key.specs.Refusals.{key_fault}
use Rattle.key.specs.declared.fault.KeyFault.TheVariants.{EvenF, EvenG, Determinant}

module _ (n : ℕ) (b : Basis) where
  pub even_f : odd (total b.f) ≡ false → first_failing (sound_tests n b) ≡ Some (key_fault EvenF)
  unfolding sound_tests
  even_f e = rw e

  pub even_g : odd (total b.f) ≡ true → odd (total b.g) ≡ false → first_failing (sound_tests n b) ≡ Some (key_fault EvenG)
  unfolding sound_tests
  even_g e h = rw (e, h)

  pub wrong_determinant : (k : ℕ) → odd (total b.f) ≡ true → odd (total b.g) ≡ true → k ≡ prefix_len is_zero (excess n b) → k < n → first_failing (sound_tests n b) ≡ Some (key_fault (Determinant k))
  unfolding sound_tests
  wrong_determinant k e h is below =
      let other : eqb (prefix_len is_zero (excess n b)) n ≡ false = ne_eqb (prefix_len is_zero (excess n b)) n (λ same. omega arith) in
      rw (e, h, other) (ap (λ j. Some (key_fault (Determinant j))) (sym is))

  pub all_sound : odd (total b.f) ≡ true → odd (total b.g) ≡ true → prefix_len is_zero (excess n b) ≡ n → first_failing (sound_tests n b) ≡ None
  unfolding sound_tests
  all_sound e h is = let same = eq-eqb (prefix_len is_zero (excess n b)) n is in rw (e, h, same)

  pub sound_parts : first_failing (sound_tests n b) ≡ None → (odd (total b.f) ≡ true) × (odd (total b.g) ≡ true) × (prefix_len is_zero (excess n b) ≡ n)
  unfolding sound_tests
  sound_parts none =
      let last = determinant_test n b ∷ [] in
      let p = none_parts (test (odd (total b.f)) (key_fault EvenF)) (test (odd (total b.g)) (key_fault EvenG) ∷ last) none in
      let q = none_parts (test (odd (total b.g)) (key_fault EvenG)) last p.1 in
      let r = none_parts (determinant_test n b) [] q.1 in
      (p.0, q.0, eqb-true (prefix_len is_zero (excess n b)) n r.0)
