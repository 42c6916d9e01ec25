-- What joins two matrices with one form only moves numbers and flips signs.
use Rattle.std.proofs.Common.{◌≡◌, ℕ, ◌⊎◌, pos, ◌+ℤ◌, sym, ap, ◌∙◌, inl, inr}
use Rattle.algebra.proofs.Elements.{◌⊕◌, ⊖, 𝟎, 𝟏, inner, inner_zero}
use Rattle.algebra.proofs.Products.{◌⊗◌}
use Rattle.algebra.proofs.Rings.{ring}
use Rattle.algebra.proofs.Mats.{Mat, vec, ◌⊙◌, ◌▷◌, unit, det, turned_over, ⊙_assoc, ⊙_unit, unit_⊙, over_right, over_left}
use Rattle.algebra.proofs.Norms.{gram, pair, same_norms}
use Rattle.algebra.proofs.Units.{Monomial, norm_one, one_norm, one_apart}

one_and_none : (m : ℕ) → inner 𝟏 (𝟏 {m = m}) +ℤ inner 𝟎 (𝟎 {m = m}) ≡ pos 1
one_and_none m = rw (one_norm m, inner_zero (𝟎 {m = m}))

none_and_one : (m : ℕ) → inner 𝟎 (𝟎 {m = m}) +ℤ inner 𝟏 (𝟏 {m = m}) ≡ pos 1
none_and_one m = rw (one_norm m, inner_zero (𝟎 {m = m}))

module _ {m : ℕ} where
  -- the one U with N = U·M
  unfoldable pub joiner : Mat m → Mat m → Mat m
  joiner M N = N ⊙ turned_over M

  pub joins : (M N : Mat m) → det M ≡ 𝟏 → joiner M N ⊙ M ≡ N
  unfolding joiner
  joins M N e = ⊙_assoc N (turned_over M) M ∙ ap (λ t. N ⊙ t) (over_left M e) ∙ ⊙_unit N

  pub only_joiner : (M N U : Mat m) → det M ≡ 𝟏 → U ⊙ M ≡ N → U ≡ joiner M N
  unfolding joiner
  only_joiner M N U e h = sym (⊙_unit U) ∙ ap (λ t. U ⊙ t) (sym (over_right M e)) ∙ sym (⊙_assoc U M (turned_over M)) ∙ ap (λ t. t ⊙ turned_over M) h

  pub joiner_undone : (M N : Mat m) → det M ≡ 𝟏 → det N ≡ 𝟏 → joiner N M ⊙ joiner M N ≡ unit
  joiner_undone M N d e =
      only_joiner M M (joiner N M ⊙ joiner M N) d (⊙_assoc (joiner N M) (joiner M N) M ∙ ap (λ t. joiner N M ⊙ t) (joins M N d) ∙ joins N M e)
      ∙ sym (only_joiner M M unit d (unit_⊙ M))

  pub joiner_source : (M N : Mat m) → det N ≡ 𝟏 → turned_over N ⊙ joiner M N ≡ turned_over M
  unfolding joiner
  joiner_source M N e = sym (⊙_assoc (turned_over N) N (turned_over M)) ∙ ap (λ t. t ⊙ turned_over M) (over_left N e) ∙ unit_⊙ (turned_over M)

  -- two powers in different rows and columns, and 0 elsewhere
  abbrev pub Mover : Mat m → Type 0
  Mover U =
      (Monomial U.a × (U.b ≡ 𝟎) × (U.c ≡ 𝟎) × Monomial U.d)
      ⊎ ((U.a ≡ 𝟎) × Monomial U.b × Monomial U.c × (U.d ≡ 𝟎))

  left_column : (M N : Mat m) → det M ≡ 𝟏 → gram M ≡ gram N → inner (joiner M N).a (joiner M N).a +ℤ inner (joiner M N).c (joiner M N).c ≡ pos 1
  unfolding joiner ◌⊙◌ ◌▷◌ pair turned_over unit
  left_column M N e q =
      sym (same_norms M N q (vec M.d (⊖ M.c)))
      ∙ ap (λ (W : Mat m). inner W.a W.a +ℤ inner W.c W.c) (over_right M e) ∙ one_and_none m

  right_column : (M N : Mat m) → det M ≡ 𝟏 → gram M ≡ gram N → inner (joiner M N).b (joiner M N).b +ℤ inner (joiner M N).d (joiner M N).d ≡ pos 1
  unfolding joiner ◌⊙◌ ◌▷◌ pair turned_over unit
  right_column M N e q =
      sym (same_norms M N q (vec (⊖ M.b) M.a))
      ∙ ap (λ (W : Mat m). inner W.b W.b +ℤ inner W.d W.d) (over_right M e) ∙ none_and_one m

  -- a matrix with a row of zeros has no determinant one
  no_lower : (M N U : Mat m) → det N ≡ 𝟏 → U ⊙ M ≡ N → U.c ≡ 𝟎 → U.d ≡ 𝟎 → ⊥
  unfolding ◌⊙◌ det
  no_lower M N U e h p q =
      let c0 : U.c ⊗ M.a ⊕ U.d ⊗ M.c ≡ 𝟎 = rw (p, q) (simp ring) in
      let d0 : U.c ⊗ M.b ⊕ U.d ⊗ M.d ≡ 𝟎 = rw (p, q) (simp ring) in
      let nc : N.c ≡ 𝟎 = sym (ap (λ (W : Mat m). W.c) h) ∙ c0 in
      let nd : N.d ≡ 𝟎 = sym (ap (λ (W : Mat m). W.d) h) ∙ d0 in
      let z : N.a ⊗ N.d ⊕ ⊖ (N.c ⊗ N.b) ≡ 𝟎 = rw (nc, nd) (simp ring) in
      one_apart (sym e ∙ z)

  no_upper : (M N U : Mat m) → det N ≡ 𝟏 → U ⊙ M ≡ N → U.a ≡ 𝟎 → U.b ≡ 𝟎 → ⊥
  unfolding ◌⊙◌ det
  no_upper M N U e h p q =
      let a0 : U.a ⊗ M.a ⊕ U.b ⊗ M.c ≡ 𝟎 = rw (p, q) (simp ring) in
      let b0 : U.a ⊗ M.b ⊕ U.b ⊗ M.d ≡ 𝟎 = rw (p, q) (simp ring) in
      let na : N.a ≡ 𝟎 = sym (ap (λ (W : Mat m). W.a) h) ∙ a0 in
      let nb : N.b ≡ 𝟎 = sym (ap (λ (W : Mat m). W.b) h) ∙ b0 in
      let z : N.a ⊗ N.d ⊕ ⊖ (N.c ⊗ N.b) ≡ 𝟎 = rw (na, nb) (simp ring) in
      one_apart (sym e ∙ z)

  pub joiner_moves : (M N : Mat m) → det M ≡ 𝟏 → det N ≡ 𝟏 → gram M ≡ gram N → Mover (joiner M N)
  joiner_moves M N d e q =
      cases (joiner M N) (joins M N d) (norm_one _ _ (left_column M N d q)) (norm_one _ _ (right_column M N d q))
    where
      cases : (U : Mat m) → U ⊙ M ≡ N → (Monomial U.a × (U.c ≡ 𝟎)) ⊎ ((U.a ≡ 𝟎) × Monomial U.c) →
          (Monomial U.b × (U.d ≡ 𝟎)) ⊎ ((U.b ≡ 𝟎) × Monomial U.d) → Mover U
      cases U h (inl p) (inl r) = absurd (no_lower M N U e h p.1 r.1)
      cases U h (inl p) (inr r) = inl (p.0, r.0, p.1, r.1)
      cases U h (inr p) (inl r) = inr (p.0, r.0, p.1, r.1)
      cases U h (inr p) (inr r) = absurd (no_upper M N U e h p.0 r.0)
