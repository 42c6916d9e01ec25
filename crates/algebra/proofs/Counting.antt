-- The form of a key belongs to exactly 4n keys.
use Rattle.std.proofs.Common.{◌≡◌, ℕ, zero, suc, ◌+◌, ◌-◌, ◌*◌, ◌<◌, ◌≤◌, true, eqb, ◌⊎◌, List, [], ◌∷◌, ◌++◌, length, ℤ, pos, ◌+ℤ◌, neg_ℤ, sym, refl, ap, ◌∙◌, inl, inr, arith}
use lib.IntN.{+ℤ_comm, +ℤ_assoc, neg_ℤ-+ℤ}
use borrow.Author.Differences.{up, down, neg_is}
use Rattle.std.specs.List.{AllByRecursion}
use Rattle.std.proofs.lemmas.Bool.{cases_lt, lt-ltb, le-ltb}
use Rattle.ring.specs.Elements.{negative, difference, turned, constant, total}
use Rattle.ring.specs.Kinds.{rest}
use Rattle.ring.proofs.Residues.{Differ, differ_same, same_sum}
use Rattle.scheme.specs.Keys.{Basis, Gram, IsKey, Within, key_limit, odd, determinant, form_of}
use Rattle.scheme.specs.Powers.{powered}
use Rattle.scheme.specs.Matrices.{basis_of}
use Rattle.scheme.specs.Siblings.{straight, crosswise, sibling}
use Rattle.algebra.specs.Counting.{Exactly4n}
use Rattle.algebra.proofs.Sizes.{length_negative}
use Rattle.algebra.proofs.Elements.{same, ◌⊕◌, ⊖, 𝟏, star, ended, turn_push}
use Rattle.algebra.proofs.Powers.{turns, length_powered, powered_zero, powered_suc}
use Rattle.algebra.proofs.Products.{◌⊗◌}
use Rattle.algebra.proofs.Rings.{turns_round}
use Rattle.algebra.proofs.Mats.{Mat, same_mat, det}
use Rattle.algebra.proofs.Norms.{gram}
use Rattle.algebra.proofs.Isometries.{joiner, joins, joiner_moves}
use Rattle.algebra.proofs.Moves.{abs_neg}
use Rattle.algebra.proofs.Bounds.{within_negative}
use Rattle.algebra.proofs.Bridges.{mat_of, key_size, det_is, same_grams}
use Rattle.algebra.proofs.Siblings.{rows, crossed_rows, det_rows, det_crossed, gram_rows, gram_crossed, rows_apart, crossed_apart, kinds_apart, all_among}

-- ---- small numbers and odd sums
all_ended : (P : ℤ → Type 0) (u : List ℤ) (x : ℤ) → AllByRecursion P (u ++ x ∷ []) → P x × AllByRecursion P u
all_ended P [] x h = (h.0, tt)
all_ended P (y ∷ u) x h = let t = all_ended P u x h.1 in (t.0, (h.0, t.1))

within_powered : (n m k : ℕ) (a : List ℤ) → length a ≡ suc m → AllByRecursion (Within n) a → AllByRecursion (Within n) (powered k a)
within_powered n m zero a e h = rw (powered_zero a) h
within_powered n m (suc k) a e h =
    let s = ended (powered k a) m (length_powered k a ∙ e) in
    let t = all_ended (Within n) s.0 s.1 (rw s.2 at (within_powered n m k a e h)) in
    rw (powered_suc k a, s.2, turn_push s.0 s.1) (rw (abs_neg s.1) t.0, t.1)

rest_neg : (x : ℤ) → rest 2 (neg_ℤ x) ≡ rest 2 x
rest_neg x =
    let d : Differ 2 (neg_ℤ x) x = (up x, down x, omega (arith, neg_is x)) in
    differ_same 2 (neg_ℤ x) x (omega arith) d

total_push : (u : List ℤ) (x : ℤ) → total (u ++ x ∷ []) ≡ x +ℤ total u
unfolding total
total_push [] x = refl
total_push (y ∷ u) x = rw (total_push u x) (sym (+ℤ_assoc y x (total u)) ∙ ap (λ t. t +ℤ total u) (+ℤ_comm y x) ∙ +ℤ_assoc x y (total u))

parity_turned : (u : List ℤ) (x : ℤ) → rest 2 (total (neg_ℤ x ∷ u)) ≡ rest 2 (total (u ++ x ∷ []))
unfolding total
parity_turned u x = rw (total_push u x) (same_sum 2 (neg_ℤ x) x (total u) (total u) (omega arith) (rest_neg x) refl)

parity_powered : (m k : ℕ) (a : List ℤ) → length a ≡ suc m → rest 2 (total (powered k a)) ≡ rest 2 (total a)
parity_powered m zero a e = ap (λ l. rest 2 (total l)) (powered_zero a)
parity_powered m (suc k) a e =
    let s = ended (powered k a) m (length_powered k a ∙ e) in
    ap (λ l. rest 2 (total l)) (powered_suc k a ∙ ap (turned 1) s.2 ∙ turn_push s.0 s.1) ∙ parity_turned s.0 s.1
    ∙ ap (λ l. rest 2 (total l)) (sym s.2) ∙ parity_powered m k a e

total_negative : (a : List ℤ) → total (negative a) ≡ neg_ℤ (total a)
unfolding total negative
total_negative [] = refl
total_negative (x ∷ a) = rw (total_negative a) (sym (neg_ℤ-+ℤ x (total a)))

odd_powered : (m k : ℕ) (a : List ℤ) → length a ≡ suc m → odd (total a) ≡ true → odd (total (powered k a)) ≡ true
odd_powered m k a e h = ap (λ r. eqb r 1) (parity_powered m k a e) ∙ h

odd_negative : (a : List ℤ) → odd (total a) ≡ true → odd (total (negative a)) ≡ true
odd_negative a h = ap (λ r. eqb r 1) (ap (rest 2) (total_negative a) ∙ rest_neg (total a)) ∙ h

-- ---- keys from matrices
abbrev from : {m : ℕ} → Mat m → Basis
from M = record { f = M.a.list; g = M.c.list; F = M.b.list; G = M.d.list }

det_from : {m : ℕ} (M : Mat m) → det M ≡ 𝟏 → determinant (from M) ≡ constant (suc m) (pos 1)
unfolding determinant difference det ◌⊗◌ ◌⊕◌ ⊖ 𝟏
det_from M e = ap (λ t. t.list) e

form_from : {m : ℕ} (M N : Mat m) → gram M ≡ gram N → form_of (from M) ≡ form_of (from N)
unfolding form_of gram ◌⊗◌ ◌⊕◌ star
form_from {m} M N e = ap (λ (Q : Mat m). let q : Gram = record { q00 = Q.a.list; q01 = Q.b.list; q11 = Q.d.list } in q) e

same_from : {m : ℕ} (M N : Mat m) → from M ≡ from N → M ≡ N
same_from M N e = same_mat M N (same _ _ (ap (λ (b : Basis). b.f) e)) (same _ _ (ap (λ (b : Basis). b.F) e)) (same _ _ (ap (λ (b : Basis). b.g) e))
    (same _ _ (ap (λ (b : Basis). b.G) e))

module _ (m : ℕ) (b : Basis) (key : IsKey (suc m) b) where
  -- the key as a matrix
  B : Mat m
  B = mat_of (basis_of b) (key_size (suc m) b key)

  B_det : det B ≡ 𝟏
  unfolding B
  B_det = det_is b (key_size (suc m) b key) key.unit_determinant

  from_B : from B ≡ b
  unfolding B basis_of
  from_B = refl

  -- X^j times a row, and what brings it round
  abbrev left : ℕ → ℕ
  left j = 2 * suc m - j

  straight_is : (j : ℕ) → straight (suc m) j b ≡ from (rows j (left j) B)
  unfolding straight rows turns B basis_of
  straight_is j = refl

  crosswise_is : (k : ℕ) → crosswise (suc m) k b ≡ from (crossed_rows k (left k) B)
  unfolding crosswise crossed_rows turns ⊖ B basis_of
  crosswise_is k = refl

  round : (i : ℕ) → i ≡ 2 * suc m → turns i (det B) ≡ 𝟏
  round i e = ap (λ t. turns t (det B)) e ∙ turns_round (det B) ∙ B_det

  straight_key : (j : ℕ) → j ≤ 2 * suc m → IsKey (suc m) (straight (suc m) j b)
  unfolding straight
  straight_key j h = record {
    f_size = length_powered j b.f ∙ key.f_size;
    g_size = length_powered (left j) b.g ∙ key.g_size;
    F_size = length_powered j b.F ∙ key.F_size;
    G_size = length_powered (left j) b.G ∙ key.G_size;
    f_small = within_powered key_limit m j b.f key.f_size key.f_small;
    g_small = within_powered key_limit m (left j) b.g key.g_size key.g_small;
    F_small = within_powered key_limit m j b.F key.F_size key.F_small;
    G_small = within_powered key_limit m (left j) b.G key.G_size key.G_small;
    f_odd = odd_powered m j b.f key.f_size key.f_odd;
    g_odd = odd_powered m (left j) b.g key.g_size key.g_odd;
    unit_determinant =
        ap determinant (straight_is j) ∙ det_from (rows j (left j) B) (det_rows j (left j) B ∙ round (j + left j) (omega arith));
  }

  crosswise_key : (k : ℕ) → k ≤ 2 * suc m → IsKey (suc m) (crosswise (suc m) k b)
  unfolding crosswise
  crosswise_key k h = record {
    f_size = length_powered k b.g ∙ key.g_size;
    g_size = length_negative (powered (left k) b.f) ∙ length_powered (left k) b.f ∙ key.f_size;
    F_size = length_powered k b.G ∙ key.G_size;
    G_size = length_negative (powered (left k) b.F) ∙ length_powered (left k) b.F ∙ key.F_size;
    f_small = within_powered key_limit m k b.g key.g_size key.g_small;
    g_small = within_negative key_limit (powered (left k) b.f) (within_powered key_limit m (left k) b.f key.f_size key.f_small);
    F_small = within_powered key_limit m k b.G key.G_size key.G_small;
    G_small = within_negative key_limit (powered (left k) b.F) (within_powered key_limit m (left k) b.F key.F_size key.F_small);
    f_odd = odd_powered m k b.g key.g_size key.g_odd;
    g_odd = odd_negative (powered (left k) b.f) (odd_powered m (left k) b.f key.f_size key.f_odd);
    unit_determinant =
        ap determinant (crosswise_is k) ∙ det_from (crossed_rows k (left k) B) (det_crossed k (left k) B ∙ round (k + left k) (omega arith));
  }

  straight_form : (j : ℕ) → form_of (straight (suc m) j b) ≡ form_of b
  straight_form j = ap form_of (straight_is j) ∙ form_from (rows j (left j) B) B (gram_rows j (left j) B) ∙ ap form_of from_B

  crosswise_form : (k : ℕ) → form_of (crosswise (suc m) k b) ≡ form_of b
  crosswise_form k = ap form_of (crosswise_is k) ∙ form_from (crossed_rows k (left k) B) B (gram_crossed k (left k) B) ∙ ap form_of from_B

  -- ---- the numbering
  low : (j : ℕ) → j < 2 * suc m → sibling (suc m) j b ≡ straight (suc m) j b
  unfolding sibling
  low j h = rw (lt-ltb j (2 * suc m) h)

  high : (j : ℕ) → 2 * suc m ≤ j → sibling (suc m) j b ≡ crosswise (suc m) (j - 2 * suc m) b
  unfolding sibling
  high j h = rw (le-ltb j (2 * suc m) h)

  pub each_key : (j : ℕ) → j < 4 * suc m → IsKey (suc m) (sibling (suc m) j b)
  each_key j h = elim (cases_lt j (2 * suc m)) [
    | inl l ↦ rw (low j l) (straight_key j (omega arith))
    | inr l ↦ rw (high j l) (crosswise_key (j - 2 * suc m) (omega arith))
  ]

  pub each_form : (j : ℕ) → j < 4 * suc m → form_of (sibling (suc m) j b) ≡ form_of b
  each_form j h = elim (cases_lt j (2 * suc m)) [
    | inl l ↦ rw (low j l) (straight_form j)
    | inr l ↦ rw (high j l) (crosswise_form (j - 2 * suc m))
  ]

  low_is : (j : ℕ) → j < 2 * suc m → sibling (suc m) j b ≡ from (rows j (left j) B)
  low_is j h = low j h ∙ straight_is j

  high_is : (j : ℕ) → 2 * suc m ≤ j → sibling (suc m) j b ≡ from (crossed_rows (j - 2 * suc m) (left (j - 2 * suc m)) B)
  high_is j h = high j h ∙ crosswise_is (j - 2 * suc m)

  pub none_twice : (i j : ℕ) → i < 4 * suc m → j < 4 * suc m → sibling (suc m) i b ≡ sibling (suc m) j b → i ≡ j
  none_twice i j h k e = cases (cases_lt i (2 * suc m)) (cases_lt j (2 * suc m))
    where
      cases : (i < 2 * suc m) ⊎ (2 * suc m ≤ i) → (j < 2 * suc m) ⊎ (2 * suc m ≤ j) → i ≡ j
      cases (inl p) (inl q) = rows_apart i j (left i) (left j) B B_det p q (same_from _ _ (sym (low_is i p) ∙ e ∙ low_is j q))
      cases (inl p) (inr q) =
          absurd (kinds_apart i (j - 2 * suc m) (left i) (left (j - 2 * suc m)) B B_det (same_from _ _ (sym (low_is i p) ∙ e ∙ high_is j q)))
      cases (inr p) (inl q) =
          absurd (kinds_apart j (i - 2 * suc m) (left j) (left (i - 2 * suc m)) B B_det (same_from _ _ (sym (low_is j q) ∙ sym e ∙ high_is i p)))
      cases (inr p) (inr q) =
          let same_place : i - 2 * suc m ≡ j - 2 * suc m =
          crossed_apart (i - 2 * suc m) (j - 2 * suc m) (left (i - 2 * suc m)) (left (j - 2 * suc m)) B B_det
          (omega arith) (omega arith) (same_from _ _ (sym (high_is i p) ∙ e ∙ high_is j q)) in
          omega arith

  pub every_one : (b' : Basis) → IsKey (suc m) b' → form_of b' ≡ form_of b → (j : ℕ) × (j < 4 * suc m) × (b' ≡ sibling (suc m) j b)
  unfolding B basis_of
  every_one b' key' e =
      let s = key_size (suc m) b key in
      let s' = key_size (suc m) b' key' in
      let N : Mat m = mat_of (basis_of b') s' in
      let N-det : det N ≡ 𝟏 = det_is b' s' key'.unit_determinant in
      let t = all_among B N (joiner B N) B_det N-det (joins B N B_det) (joiner_moves B N B_det N-det (same_grams b b' s s' (sym e))) in
      elim t.2 [
        | inl p ↦ (t.0, omega (arith, t.1), ap from p ∙ sym (low_is t.0 t.1))
        | inr p ↦
            let back : t.0 + 2 * suc m - 2 * suc m ≡ t.0 = omega arith in
            (t.0 + 2 * suc m, omega (arith, t.1), ap from p ∙ sym (high_is (t.0 + 2 * suc m) (omega arith) ∙ rw back))
      ]

pub exactly_4n : Exactly4n
exactly_4n zero b h key = absurd (omega arith)
exactly_4n (suc m) b h key = record { keys = each_key m b key; same_form = each_form m b key; apart = none_twice m b key; all = every_one m b key }
