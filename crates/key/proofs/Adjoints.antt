-- Elements that are their own adjoints, and the first power at which one is not.
use Rattle.std.proofs.Common.{◌≡◌, ℕ, ◌<◌, ◌≤◌, true, false, List, map, length, get_or, ℤ, pos, nat_abs, Some, None, Option, MatchOption, FitsSigned, sym, ap, ◌∙◌, arith, w64}
use Rattle.std.specs.List.{prefix_len, zip, AllWithin, HoldsAt}
use Rattle.std.proofs.ByRecursion.{All-get_or}
use Rattle.std.proofs.lemmas.List.{get_or-map, length-map}
use Rattle.std.proofs.lemmas.List.Sums.{prefix_len_is}
use Rattle.std.proofs.lemmas.Slice.Zip.{length-zip, get_or-zip}
use Rattle.ring.specs.Elements.{adjoint, difference}
use Rattle.ring.specs.Kinds.{word_value}
use Rattle.ring.proofs.Places.{length_adjoint, length_difference}
use Rattle.ring.proofs.Sizes.{bounded_adjoint, fits_word}
use Rattle.ring.proofs.Words.{same_word}
use Rattle.scheme.specs.Keys.{all_within, form_limit}
use Rattle.key.specs.FormLoading.{first_unlike}
use Rattle.scheme.specs.Pairs.{is_zero}
use Rattle.key.proofs.Differences.{alike, unlike, same_from, never_differs}
use Rattle.key.proofs.Ranges.{bounded_from}

-- an element beside its adjoint, both in words: they differ where the true ones do
module _ (q e m : List ℤ) (small : all_within form_limit q ≡ true) (e_is : e ≡ q) (m_is : map word_value m ≡ map word_value (adjoint q)) where
  m_long : length m ≡ length q
  m_long = sym (length-map m word_value) ∙ ap length m_is ∙ length-map (adjoint q) word_value ∙ length_adjoint q

  pub pairs_long : length (zip e m) ≡ length q
  pairs_long = let l = length-zip e m in let n = ap length e_is in omega (arith, l, n, m_long)

  pair_at : (k : ℕ) → k < length q → get_or (zip e m) k (pos 0, pos 0) ≡ (get_or q k (pos 0), get_or m k (pos 0))
  pair_at k h = get_or-zip e m k (pos 0, pos 0) (let n = ap length e_is in omega (arith, n)) (omega (arith, m_long)) ∙ ap (λ l. (get_or l k (pos 0), get_or m k (pos 0))) e_is

  residue_at : (k : ℕ) → k < length q → word_value (get_or m k (pos 0)) ≡ word_value (get_or (adjoint q) k (pos 0))
  residue_at k h =
      let long = length_adjoint q in
      sym (get_or-map word_value m k (pos 0) 0 (omega (arith, m_long))) ∙ ap (λ l. get_or l k 0) m_is ∙ get_or-map word_value (adjoint q) k (pos 0) 0 (omega arith)

  entry_fits : (k : ℕ) → k < length q → FitsSigned w64 (get_or q k (pos 0))
  entry_fits k h = fits_word _ (omega (arith, All-get_or (λ z. nat_abs z ≤ form_limit) q k (pos 0) h (bounded_from form_limit q small)))

  mirror_fits : (k : ℕ) → k < length q → FitsSigned w64 (get_or (adjoint q) k (pos 0))
  mirror_fits k h =
      let long = length_adjoint q in
      fits_word _ (omega (arith, All-get_or (λ z. nat_abs z ≤ form_limit) (adjoint q) k (pos 0) (omega arith) (bounded_adjoint form_limit q (bounded_from form_limit q small))))

  same_at : (k : ℕ) → k < length q → (get_or (zip e m) k (pos 0, pos 0)).0 ≡ (get_or (zip e m) k (pos 0, pos 0)).1 → is_zero (get_or (difference q (adjoint q)) k (pos 0)) ≡ true
  same_at k h same =
      let at : get_or q k (pos 0) ≡ get_or m k (pos 0) = rw (pair_at k h) at same in
      alike q (adjoint q) (sym (length_adjoint q)) k h (same_word _ _ (entry_fits k h) (mirror_fits k h) (ap word_value at ∙ residue_at k h))

  other_at : (k : ℕ) → k < length q → FitsSigned w64 (get_or (zip e m) k (pos 0, pos 0)).1 × ((get_or (zip e m) k (pos 0, pos 0)).0 ≡ (get_or (zip e m) k (pos 0, pos 0)).1 → ⊥)
      → is_zero (get_or (difference q (adjoint q)) k (pos 0)) ≡ false
  other_at k h other =
      let at : FitsSigned w64 (get_or m k (pos 0)) × (get_or q k (pos 0) ≡ get_or m k (pos 0) → ⊥) = rw (pair_at k h) at other in
      unlike q (adjoint q) (sym (length_adjoint q)) k h (λ same. at.1 (sym (same_word _ _ at.0 (entry_fits k h) (residue_at k h ∙ ap word_value (sym same)))))

  pub unlike_found : (r : Option ℕ)
      → MatchOption r (AllWithin {X = ℤ × ℤ} (λ p. p.0 ≡ p.1) (zip e m) 0 (length (zip e m)))
      (λ i. (i < length (zip e m)) × HoldsAt {X = ℤ × ℤ} (λ p. FitsSigned w64 p.1 × (p.0 ≡ p.1 → ⊥)) (zip e m) i × AllWithin {X = ℤ × ℤ} (λ p. p.0 ≡ p.1) (zip e m) 0 i)
      → MatchOption r (first_unlike q ≡ length q) (λ k. (k ≡ first_unlike q) × (k < length q))
  unfolding first_unlike
  unlike_found None h =
      let long = length_difference q (adjoint q) (sym (length_adjoint q)) in
      prefix_len_is is_zero (difference q (adjoint q)) (length q) (pos 0) (omega arith) (λ k l. same_at k l (h k (pos 0, pos 0) (omega arith) (omega (arith, pairs_long)))) (λ l. absurd (omega arith))
  unlike_found (Some i) h =
      let long = length_difference q (adjoint q) (sym (length_adjoint q)) in
      let below : i < length q = omega (arith, h.0, pairs_long) in
      (sym (prefix_len_is is_zero (difference q (adjoint q)) i (pos 0) (omega arith) (λ k l. same_at k (omega arith) (h.2 k (pos 0, pos 0) (omega arith) l)) (λ _. other_at i below (h.1 (pos 0, pos 0)))), below)

-- an element that differs nowhere from its adjoint
pub selfadjoint_from : (q : List ℤ) → first_unlike q ≡ length q → q ≡ adjoint q
unfolding first_unlike
selfadjoint_from q e = same_from q (adjoint q) (sym (length_adjoint q)) e

pub selfadjoint_never : (q : List ℤ) → q ≡ adjoint q → first_unlike q ≡ length q
unfolding first_unlike
selfadjoint_never q e = ap (λ a. prefix_len is_zero (difference q a)) (sym e) ∙ never_differs q
