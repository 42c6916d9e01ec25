-- The matrices with the form of a given one: rows turned, and rows exchanged and turned.
use Rattle.std.proofs.Common.{◌≡◌, ℕ, zero, suc, ◌+◌, ◌-◌, ◌*◌, ◌<◌, ◌≤◌, ◌⊎◌, get_or, replicate, pos, neg_ℤ, sym, refl, ap, ◌∙◌, inl, inr, arith}
use Rattle.algebra.proofs.Elements.{El, ◌⊕◌, ⊖, 𝟎, 𝟏, star, inner, ⊕_comm, ⊕_neg, ⊖_⊖, inner_comm, inner_neg, inner_zero}
use Rattle.algebra.proofs.Powers.{turns, turns_zero, turns_linear, constant_is, inner_power}
use Rattle.algebra.proofs.Products.{◌⊗◌, ⊗_one}
use Rattle.algebra.proofs.Rings.{ring, ⊗_neg, neg_⊗, star_neg, turns_is, turns_add, turns_size, turns_neg, ⊗_turns, turns_⊗, star_turns_⊗, inner_turns}
use Rattle.algebra.proofs.Laws.{turns_undone}
use Rattle.algebra.proofs.Mats.{Mat, mat, same_mat, ◌⊙◌, det}
use Rattle.algebra.proofs.Norms.{gram}
use Rattle.algebra.proofs.Units.{Monomial, one_norm}
use Rattle.algebra.proofs.Isometries.{Mover}
use Rattle.algebra.proofs.Moves.{only_left, only_right}
use Rattle.std.proofs.lemmas.Bool.{cases_lt, cases_order}

module _ {m : ℕ} where
  unfoldable pub rows : ℕ → ℕ → Mat m → Mat m
  rows j k M = mat (turns j M.a) (turns j M.b) (turns k M.c) (turns k M.d)

  unfoldable pub crossed_rows : ℕ → ℕ → Mat m → Mat m
  crossed_rows j k M = mat (turns j M.c) (turns j M.d) (⊖ (turns k M.a)) (⊖ (turns k M.b))

  -- ---- determinants
  turns_both : (j k : ℕ) (a b : El m) → turns j a ⊗ turns k b ≡ turns (j + k) (a ⊗ b)
  turns_both j k a b = turns_⊗ j a (turns k b) ∙ ap (turns j) (⊗_turns k a b) ∙ sym (turns_add j k (a ⊗ b))

  turns_minus : (i : ℕ) (a b : El m) → turns i (a ⊕ ⊖ b) ≡ turns i a ⊕ ⊖ (turns i b)
  turns_minus i a b = (turns_linear i).of_sum a (⊖ b) ∙ ap (λ t. turns i a ⊕ t) (turns_neg i b)

  pub det_rows : (j k : ℕ) (M : Mat m) → det (rows j k M) ≡ turns (j + k) (det M)
  unfolding det rows
  det_rows j k M =
      let e : k + j ≡ j + k = omega arith in
      rw (turns_both j k M.a M.d, turns_both k j M.c M.b, e) (sym (turns_minus (j + k) (M.a ⊗ M.d) (M.c ⊗ M.b)))

  pub det_crossed : (j k : ℕ) (M : Mat m) → det (crossed_rows j k M) ≡ turns (j + k) (det M)
  unfolding det crossed_rows
  det_crossed j k M =
      let e : k + j ≡ j + k = omega arith in
      rw (
        ⊗_neg (turns j M.c) (turns k M.b),
        neg_⊗ (turns k M.a) (turns j M.d),
        ⊖_⊖ (turns k M.a ⊗ turns j M.d),
        turns_both j k M.c M.b,
        turns_both k j M.a M.d,
        e,
      )
      (⊕_comm (⊖ (turns (j + k) (M.c ⊗ M.b))) (turns (j + k) (M.a ⊗ M.d)) ∙ sym (turns_minus (j + k) (M.a ⊗ M.d) (M.c ⊗ M.b)))

  -- ---- forms
  pub gram_rows : (j k : ℕ) (M : Mat m) → gram (rows j k M) ≡ gram M
  unfolding gram rows
  gram_rows j k M =
      rw (
        star_turns_⊗ j M.a M.a,
        star_turns_⊗ j M.a M.b,
        star_turns_⊗ j M.b M.b,
        star_turns_⊗ k M.c M.c,
        star_turns_⊗ k M.c M.d,
        star_turns_⊗ k M.d M.d,
      )

  negatives : (a b : El m) → star (⊖ a) ⊗ ⊖ b ≡ star a ⊗ b
  negatives a b = rw (star_neg a, neg_⊗ (star a) (⊖ b), ⊗_neg (star a) b, ⊖_⊖ (star a ⊗ b))

  swapped : (j k : ℕ) (a b c d : El m) → star (turns j c) ⊗ turns j d ⊕ star (⊖ (turns k a)) ⊗ ⊖ (turns k b) ≡ star a ⊗ b ⊕ star c ⊗ d
  swapped j k a b c d = rw (negatives (turns k a) (turns k b), star_turns_⊗ j c d, star_turns_⊗ k a b) (⊕_comm (star c ⊗ d) (star a ⊗ b))

  pub gram_crossed : (j k : ℕ) (M : Mat m) → gram (crossed_rows j k M) ≡ gram M
  unfolding gram crossed_rows
  gram_crossed j k M =
      same_mat _ _ (swapped j k M.a M.a M.c M.c) (swapped j k M.a M.b M.c M.d)
      (ap star (swapped j k M.a M.b M.c M.d)) (swapped j k M.b M.b M.d M.d)

-- ---- powers are apart
place_one : (m k : ℕ) → get_or (𝟏 {m = m}).list (suc k) (pos 0) ≡ pos 0
unfolding 𝟏
place_one m k = rw (constant_is m (pos 1)) (zeros m k)
  where
    zeros : (n k : ℕ) → get_or (replicate n (pos 0)) k (pos 0) ≡ pos 0
    zeros zero k = refl
    zeros (suc n) zero = refl
    zeros (suc n) (suc k) = zeros n k

inner_apart : (m k : ℕ) → suc k ≤ m → inner (turns (suc k) 𝟏) (𝟏 {m = m}) ≡ pos 0
inner_apart m k h = inner_power (suc k) 𝟏 h ∙ place_one m k

-- a power below n is not −1
never_minus : (m k : ℕ) → k ≤ m → ⊖ (turns k 𝟏) ≡ 𝟏 {m = m} → ⊥
never_minus m zero h e =
    let s : neg_ℤ (pos 1) ≡ pos 1 = ap neg_ℤ (sym (one_norm m)) ∙ sym (inner_neg 𝟏 𝟏) ∙ ap (λ t. inner 𝟏 (⊖ t)) (sym (turns_zero 𝟏)) ∙ ap (inner 𝟏) e ∙ one_norm m in
    let z : ◌≡◌ {A = ℕ} 0 1 = cc in omega arith
never_minus m (suc k) h e =
    let s : neg_ℤ (pos 0) ≡ pos 1 = ap neg_ℤ (sym (inner_apart m k h)) ∙ ap neg_ℤ (inner_comm (turns (suc k) 𝟏) 𝟏) ∙ sym (inner_neg 𝟏 (turns (suc k) 𝟏))
    ∙ ap (inner 𝟏) e ∙ one_norm m in
    let z : ◌≡◌ {A = ℕ} 0 1 = cc in omega arith

never_one : (m d : ℕ) → 0 < d → d < 2 * suc m → turns d 𝟏 ≡ 𝟏 {m = m} → ⊥
never_one m zero h l e = omega arith
never_one m (suc k) h l e = elim (cases_lt (suc k) (suc m)) [
  | inl b ↦
      let s : pos 0 ≡ pos 1 = sym (inner_apart m k (omega arith)) ∙ ap (λ t. inner t 𝟏) e ∙ one_norm m in
      let z : ◌≡◌ {A = ℕ} 0 1 = cc in omega arith
  | inr b ↦
      let split : suc k ≡ suc m + (suc k - suc m) = omega arith in
      never_minus m (suc k - suc m) (omega arith)
      (sym (turns_size (turns (suc k - suc m) 𝟏)) ∙ sym (turns_add (suc m) (suc k - suc m) 𝟏) ∙ ap (λ i. turns i 𝟏) (sym split) ∙ e)
]

below_apart : (m i j : ℕ) → i < j → j < 2 * suc m → turns i 𝟏 ≡ turns j (𝟏 {m = m}) → ⊥
below_apart m i j h l e =
    let split : j ≡ i + (j - i) = omega arith in
    never_one m (j - i) (omega arith) (omega arith)
    (sym (turns_undone i (turns (j - i) 𝟏) (omega arith))
    ∙ ap (turns (2 * suc m - i)) (sym (turns_add i (j - i) 𝟏) ∙ ap (λ t. turns t 𝟏) (sym split) ∙ sym e) ∙ turns_undone i 𝟏 (omega arith))

pub same_power : (m i j : ℕ) → i < 2 * suc m → j < 2 * suc m → turns i 𝟏 ≡ turns j (𝟏 {m = m}) → i ≡ j
same_power m i j h l e = elim (cases_order i j) [
  | inl p ↦ p
  | inr q ↦ elim q [ inl p ↦ absurd (below_apart m i j p l e) | inr p ↦ absurd (below_apart m j i p h (sym e)) ]
]

module _ {m : ℕ} where
  power_not_zero : (i : ℕ) → turns i 𝟏 ≡ 𝟎 {m = m} → ⊥
  power_not_zero i e =
      let s : pos 1 ≡ pos 0 = sym (one_norm m) ∙ sym (inner_turns i 𝟏 𝟏) ∙ ap (λ t. inner t (turns i 𝟏)) e ∙ inner_zero (turns i 𝟏) in
      let z : ◌≡◌ {A = ℕ} 0 1 = cc in omega arith

  top : (i : ℕ) (M : Mat m) → det M ≡ 𝟏 → turns i M.a ⊗ M.d ⊕ ⊖ (M.c ⊗ turns i M.b) ≡ turns i 𝟏
  unfolding det
  top i M e = rw (turns_⊗ i M.a M.d, ⊗_turns i M.c M.b) (sym (turns_minus i (M.a ⊗ M.d) (M.c ⊗ M.b)) ∙ ap (turns i) e)

  bottom : (i : ℕ) (M : Mat m) → det M ≡ 𝟏 → M.a ⊗ turns i M.d ⊕ ⊖ (turns i M.c ⊗ M.b) ≡ turns i 𝟏
  unfolding det
  bottom i M e = rw (⊗_turns i M.a M.d, turns_⊗ i M.c M.b) (sym (turns_minus i (M.a ⊗ M.d) (M.c ⊗ M.b)) ∙ ap (turns i) e)

  pub rows_apart : (i j k l : ℕ) (M : Mat m) → det M ≡ 𝟏 → i < 2 * suc m → j < 2 * suc m → rows i k M ≡ rows j l M → i ≡ j
  unfolding rows
  rows_apart i j k l M d h h' e =
      let p : turns i M.a ≡ turns j M.a = ap (λ (W : Mat m). W.a) e in
      let q : turns i M.b ≡ turns j M.b = ap (λ (W : Mat m). W.b) e in
      same_power m i j h h' (sym (top i M d) ∙ rw (p, q) (top j M d))

  pub crossed_apart : (i j k l : ℕ) (M : Mat m) → det M ≡ 𝟏 → i < 2 * suc m → j < 2 * suc m → crossed_rows i k M ≡ crossed_rows j l M → i ≡ j
  unfolding crossed_rows
  crossed_apart i j k l M d h h' e =
      let p : turns i M.c ≡ turns j M.c = ap (λ (W : Mat m). W.a) e in
      let q : turns i M.d ≡ turns j M.d = ap (λ (W : Mat m). W.b) e in
      same_power m i j h h' (sym (bottom i M d) ∙ rw (p, q) (bottom j M d))

  pub kinds_apart : (i j k l : ℕ) (M : Mat m) → det M ≡ 𝟏 → rows i k M ≡ crossed_rows j l M → ⊥
  unfolding rows crossed_rows
  kinds_apart i j k l M d e =
      let p : turns i M.a ≡ turns j M.c = ap (λ (W : Mat m). W.a) e in
      let q : turns i M.b ≡ turns j M.d = ap (λ (W : Mat m). W.b) e in
      power_not_zero i (sym (top i M d) ∙ rw (p, q, turns_⊗ j M.c M.d, ⊗_turns j M.c M.d) (⊕_neg (turns j (M.c ⊗ M.d))))

  -- ---- every matrix with the form is among them
  as_power : (p : El m) → Monomial p → (i : ℕ) × (i < 2 * suc m) × (p ≡ turns i 𝟏)
  as_power p u = elim u.2 [
    | inl e ↦ (u.0, omega (arith, u.1), e)
    | inr e ↦ (suc m + u.0, omega (arith, u.1), e ∙ sym (turns_add (suc m) u.0 𝟏 ∙ turns_size (turns u.0 𝟏)))
  ]

  straight_det : (u w a b c d : El m) → (u ⊗ a) ⊗ (w ⊗ d) ⊕ ⊖ ((w ⊗ c) ⊗ (u ⊗ b)) ≡ (u ⊗ w) ⊗ (a ⊗ d ⊕ ⊖ (c ⊗ b))
  straight_det u w a b c d = simp ring

  crossed_det : (v w a b c d : El m) → (v ⊗ c) ⊗ (w ⊗ b) ⊕ ⊖ ((w ⊗ a) ⊗ (v ⊗ d)) ≡ ⊖ ((v ⊗ w) ⊗ (a ⊗ d ⊕ ⊖ (c ⊗ b)))
  crossed_det v w a b c d = simp ring

  abbrev pub Among : Mat m → Mat m → Type 0
  Among M N = (i : ℕ) × (i < 2 * suc m) × ((N ≡ rows i (2 * suc m - i) M) ⊎ (N ≡ crossed_rows i (2 * suc m - i) M))

  other_power : (i : ℕ) (w z : El m) → i ≤ 2 * suc m → turns i 𝟏 ⊗ w ≡ z → w ≡ turns (2 * suc m - i) z
  other_power i w z h e = sym (turns_undone i w h) ∙ ap (turns (2 * suc m - i)) (turns_is i w ∙ e)

  minus_power : (k : ℕ) (a : El m) → ⊖ (turns k 𝟏) ⊗ a ≡ ⊖ (turns k a)
  minus_power k a = neg_⊗ (turns k 𝟏) a ∙ ap ⊖ (sym (turns_is k a))

  pub all_among : (M N U : Mat m) → det M ≡ 𝟏 → det N ≡ 𝟏 → U ⊙ M ≡ N → Mover U → Among M N
  unfolding ◌⊙◌ det rows crossed_rows
  all_among M N U d e h (inl s) =
      let i = as_power U.a s.0 in
      let na : N.a ≡ U.a ⊗ M.a = sym (ap (λ (W : Mat m). W.a) h) ∙ only_left U.a U.b M.a M.c s.1 in
      let nb : N.b ≡ U.a ⊗ M.b = sym (ap (λ (W : Mat m). W.b) h) ∙ only_left U.a U.b M.b M.d s.1 in
      let nc : N.c ≡ U.d ⊗ M.c = sym (ap (λ (W : Mat m). W.c) h) ∙ only_right U.c U.d M.a M.c s.2 in
      let nd : N.d ≡ U.d ⊗ M.d = sym (ap (λ (W : Mat m). W.d) h) ∙ only_right U.c U.d M.b M.d s.2 in
      let uw : turns i.0 𝟏 ⊗ U.d ≡ 𝟏 =
      ap (λ t. t ⊗ U.d) (sym i.2) ∙ sym (⊗_one (U.a ⊗ U.d)) ∙ ap (λ t. (U.a ⊗ U.d) ⊗ t) (sym d)
      ∙ sym (straight_det U.a U.d M.a M.b M.c M.d) ∙ sym (rw (na, nb, nc, nd)) ∙ e in
      let w : U.d ≡ turns (2 * suc m - i.0) 𝟏 = other_power i.0 U.d 𝟏 (omega (arith, i.1)) uw in (
        i.0,
        i.1,
        inl (same_mat _ _
            (na ∙ ap (λ t. t ⊗ M.a) i.2 ∙ sym (turns_is i.0 M.a)) (nb ∙ ap (λ t. t ⊗ M.b) i.2 ∙ sym (turns_is i.0 M.b))
            (nc ∙ ap (λ t. t ⊗ M.c) w ∙ sym (turns_is (2 * suc m - i.0) M.c)) (nd ∙ ap (λ t. t ⊗ M.d) w ∙ sym (turns_is (2 * suc m - i.0) M.d))),
      )
  all_among M N U d e h (inr s) =
      let i = as_power U.b s.1 in
      let na : N.a ≡ U.b ⊗ M.c = sym (ap (λ (W : Mat m). W.a) h) ∙ only_right U.a U.b M.a M.c s.0 in
      let nb : N.b ≡ U.b ⊗ M.d = sym (ap (λ (W : Mat m). W.b) h) ∙ only_right U.a U.b M.b M.d s.0 in
      let nc : N.c ≡ U.c ⊗ M.a = sym (ap (λ (W : Mat m). W.c) h) ∙ only_left U.c U.d M.a M.c s.3 in
      let nd : N.d ≡ U.c ⊗ M.b = sym (ap (λ (W : Mat m). W.d) h) ∙ only_left U.c U.d M.b M.d s.3 in
      let minus : ⊖ (U.b ⊗ U.c) ≡ 𝟏 =
      ap ⊖ (sym (⊗_one (U.b ⊗ U.c)) ∙ ap (λ t. (U.b ⊗ U.c) ⊗ t) (sym d))
      ∙ sym (crossed_det U.b U.c M.a M.b M.c M.d) ∙ sym (rw (na, nb, nc, nd)) ∙ e in
      let uw : turns i.0 𝟏 ⊗ U.c ≡ ⊖ 𝟏 = ap (λ t. t ⊗ U.c) (sym i.2) ∙ sym (⊖_⊖ (U.b ⊗ U.c)) ∙ ap ⊖ minus in
      let w : U.c ≡ ⊖ (turns (2 * suc m - i.0) 𝟏) = other_power i.0 U.c (⊖ 𝟏) (omega (arith, i.1)) uw ∙ turns_neg (2 * suc m - i.0) 𝟏 in (
        i.0,
        i.1,
        inr (same_mat _ _
            (na ∙ ap (λ t. t ⊗ M.c) i.2 ∙ sym (turns_is i.0 M.c)) (nb ∙ ap (λ t. t ⊗ M.d) i.2 ∙ sym (turns_is i.0 M.d))
            (nc ∙ ap (λ t. t ⊗ M.a) w ∙ minus_power (2 * suc m - i.0) M.a) (nd ∙ ap (λ t. t ⊗ M.b) w ∙ minus_power (2 * suc m - i.0) M.b)),
      )
