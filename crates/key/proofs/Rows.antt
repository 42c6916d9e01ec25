-- Coefficients of a*·b + c*·d, in words.
use Rattle.std.proofs.Common.{◌≡◌, ℕ, ◌-◌, ◌^◌, ◌<◌, ◌≤◌, Bool, true, false, ltb, List, [], ◌∷◌, ◌++◌, map, length, get_or, replicate, ℤ, pos, ◌+ℤ◌, nat_abs, None, Result, sym, refl, ap, ◌∙◌, arith, w64, SFits, to_z, of_z}
use Rattle.std.proofs.lemmas.Int.{to_z-of_z}
use Rattle.std.proofs.lemmas.Bool.{eq-eqb, ltb-true, ltb-false}
use Rattle.std.proofs.lemmas.List.{ext_get_or, get_or_append_left, get_or-append_right, get_or-replicate, length-append, length-replicate}
use Rattle.ring.specs.Calls.{of_class, length_test2}
use Rattle.ring.specs.Elements.{coefficient, product, adjoint}
use Rattle.ring.specs.Faults.{first_failing, Answers, ring_fault}
use Rattle.ring.specs.Kinds.{rest, values, word_value}
use Rattle.ring.specs.declared.fault.RingFault.{RingFault}
use Rattle.ring.proofs.Exact.{same_adjoint, values_alike, exact_coefficient}
use Rattle.ring.proofs.Firsts.{answers_work}
use Rattle.ring.proofs.Places.{length_adjoint, length_product, length_sum, product_at, sum_at}
use Rattle.ring.proofs.Sizes.{bounded_adjoint, coefficient_size}
use Rattle.ring.specs.Below.{word_positive}
use Rattle.scheme.specs.Keys.{key_limit}
use Rattle.key.specs.Making.{starred}
use Rattle.key.specs.Stored.{padded, room_of}
use Rattle.key.specs.Words.{SmallWords}
use Rattle.key.proofs.Ranges.{bounded_from}

-- the adjoint that the ring writes has the residues of the true one
pub star_is : {T : Type 0} (a area out after : List ℤ) (r : Result T RingFault) → area ≡ a → of_class (length a) ≡ true → length out ≡ length a
    → Answers ring_fault (length_test2 (length area) (length out) ∷ []) (λ _. map word_value after ≡ map (rest (2 ^ 64)) (adjoint (values word_value area))) r
    → map word_value after ≡ map word_value (adjoint a)
star_is a area out after r same class long answer =
    let none : first_failing (length_test2 (length area) (length out) ∷ []) ≡ None =
    let equal = eq-eqb (length out) (length a) long in rw (same, class, equal) in
    let work = answers_work ring_fault (length_test2 (length area) (length out) ∷ []) (λ _. map word_value after ≡ map (rest (2 ^ 64)) (adjoint (values word_value area))) r none answer in
    work.2 ∙ ap (λ xs. map (rest (2 ^ 64)) (adjoint (values word_value xs))) same ∙ same_adjoint (2 ^ 64) word_positive a

-- one product, exactly
pub product_exact : (a b p q : List ℤ) (k : ℕ) (x : ℤ) → SmallWords a → SmallWords b → map word_value p ≡ map word_value (adjoint a) → q ≡ b → SFits w64 x
    → word_value x ≡ rest (2 ^ 64) (coefficient (values word_value p) (values word_value q) k) → to_z w64 (of_z w64 x) ≡ coefficient (adjoint a) b k
product_exact a b p q k x wa wb p_is q_is fits e =
    let long = length_adjoint a in
    to_z-of_z w64 x fits
    ∙ exact_coefficient key_limit key_limit (adjoint a) b k x (bounded_adjoint key_limit a (bounded_from key_limit a wa.small)) (bounded_from key_limit b wb.small)
    (omega (arith, long, wa.few)) fits (e ∙ rw (values_alike word_value word_value p (adjoint a) p_is, q_is))

pub product_small : (a b : List ℤ) (k : ℕ) → SmallWords a → SmallWords b → nat_abs (coefficient (adjoint a) b k) ≤ 16516096
product_small a b k wa wb =
    let long = length_adjoint a in
    omega (arith, coefficient_size key_limit key_limit (adjoint a) b k (bounded_adjoint key_limit a (bounded_from key_limit a wa.small)) (bounded_from key_limit b wb.small), long, wa.few)

-- a*·b + c*·d
module _ (a b c d : List ℤ) (few : length a ≤ room_of) (same : length c ≡ length a) where
  pub length_starred : length (starred a b c d) ≡ length a
  unfolding starred
  length_starred =
      let la = length_adjoint a in
      let lc = length_adjoint c in
      let pa = length_product (adjoint a) b in
      let pc = length_product (adjoint c) d in
      length_sum (product (adjoint a) b) (product (adjoint c) d) (omega arith) ∙ pa ∙ la

  pub starred_at : (k : ℕ) → k < length a → get_or (starred a b c d) k (pos 0) ≡ coefficient (adjoint a) b k +ℤ coefficient (adjoint c) d k
  unfolding starred
  starred_at k h =
      let la = length_adjoint a in
      let lc = length_adjoint c in
      let pa = length_product (adjoint a) b in
      let pc = length_product (adjoint c) d in
      sum_at (product (adjoint a) b) (product (adjoint c) d) k (omega arith) (omega arith) ∙ rw (product_at (adjoint a) b k (omega arith), product_at (adjoint c) d k (omega arith))
