-- The first nonzero coefficient, its sign, and the sign rule.
use Rattle.std.proofs.Common.{◌≡◌, ℕ, zero, suc, ◌+◌, Bool, true, false, cond, not, eqb, ◌⊎◌, List, [], ◌∷◌, get_or, ℤ, pos, negsuc, neg_ℤ, sym, refl, ap, ◌∙◌, inl, inr, arith}
use Rattle.std.specs.List.{prefix_len}
use Rattle.std.proofs.lemmas.Bool.{lt-ltb, ne_eqb}
use Rattle.ring.specs.Elements.{negative}
use Rattle.ring.proofs.Sizes.{abs_neg}
use Rattle.scheme.specs.Matrices.{Pair, PairOf}
use Rattle.scheme.specs.Pairs.{opposite, is_zero, is_positive, is_negative, leader}
use Rattle.scheme.specs.Signing.{changes, oriented}
use Rattle.algebra.specs.Isometries.{Congruent}
use Rattle.acceptance.proofs.Points.{opposite_opposite, opposite_size, congruent_opposite}

-- ---- the first nonzero coefficient
leader_skips : (x : ℤ) (a : List ℤ) → is_zero x ≡ true → leader (x ∷ a) ≡ leader a
unfolding leader
leader_skips x a e =
    let next : 1 + prefix_len is_zero a ≡ suc (prefix_len is_zero a) = omega arith in
    ap (λ t. get_or (x ∷ a) (cond t (1 + prefix_len is_zero a) 0) (pos 0)) e ∙ ap (λ i. get_or (x ∷ a) i (pos 0)) next

leader_stops : (x : ℤ) (a : List ℤ) → is_zero x ≡ false → leader (x ∷ a) ≡ x
unfolding leader
leader_stops x a e = ap (λ t. get_or (x ∷ a) (cond t (1 + prefix_len is_zero a) 0) (pos 0)) e

pub zero_negative : (x : ℤ) → is_zero (neg_ℤ x) ≡ is_zero x
zero_negative x = ap (λ k. eqb k 0) (abs_neg x)

negative_cons : (x : ℤ) (a : List ℤ) → negative (x ∷ a) ≡ neg_ℤ x ∷ negative a
unfolding negative
negative_cons x a = refl

pub leader_negative : (a : List ℤ) → leader (negative a) ≡ neg_ℤ (leader a)
leader_negative [] = unfold leader negative in refl
leader_negative (x ∷ a) = go (is_zero x) refl (leader_negative a)
  where
    go : (t : Bool) → is_zero x ≡ t → leader (negative a) ≡ neg_ℤ (leader a) → leader (negative (x ∷ a)) ≡ neg_ℤ (leader (x ∷ a))
    go true e more =
        ap leader (negative_cons x a) ∙ leader_skips (neg_ℤ x) (negative a) (zero_negative x ∙ e) ∙ more ∙ ap neg_ℤ (sym (leader_skips x a e))
    go false e more = ap leader (negative_cons x a) ∙ leader_stops (neg_ℤ x) (negative a) (zero_negative x ∙ e) ∙ ap neg_ℤ (sym (leader_stops x a e))

-- ---- signs
pub positive_kept : (z : ℤ) → is_positive z ≡ true → is_negative z ≡ false
positive_kept (pos k) h = refl
positive_kept (negsuc k) h = let z : ◌≡◌ {A = ℕ} 0 1 = cc in absurd (omega arith)

successor_some : (k : ℕ) → not (eqb (suc k) 0) ≡ true
successor_some k = ap not (ne_eqb (suc k) 0 (λ e. omega arith))

pub positive_some : (z : ℤ) → is_positive z ≡ true → not (is_zero z) ≡ true
positive_some (pos zero) h = h
positive_some (pos (suc k)) h = successor_some k
positive_some (negsuc k) h = successor_some k

pub positive_turned : (z : ℤ) → is_positive z ≡ true → is_negative (neg_ℤ z) ≡ true
positive_turned (pos zero) h = h
positive_turned (pos (suc k)) h = refl
positive_turned (negsuc k) h = let z : ◌≡◌ {A = ℕ} 0 1 = cc in absurd (omega arith)

negative_turned : (z : ℤ) → is_negative z ≡ true → is_positive (neg_ℤ z) ≡ true
negative_turned (pos k) h = let z : ◌≡◌ {A = ℕ} 0 1 = cc in absurd (omega arith)
negative_turned (negsuc k) h = lt-ltb 0 (suc k) (omega arith)

neither_positive : (z : ℤ) → is_negative z ≡ false → not (is_zero z) ≡ true → is_positive z ≡ true
neither_positive (pos zero) h k = k
neither_positive (pos (suc m)) h k = lt-ltb 0 (suc m) (omega arith)
neither_positive (negsuc m) h k = let z : ◌≡◌ {A = ℕ} 0 1 = cc in absurd (omega arith)

pub not_own_negative : (z : ℤ) → is_positive z ≡ true → z ≡ neg_ℤ z → ⊥
not_own_negative z h e =
    let clash : true ≡ false = sym (positive_turned z h) ∙ ap is_negative (sym e) ∙ positive_kept z h in
    let z : ◌≡◌ {A = ℕ} 0 1 = cc in omega arith

-- ---- the sign rule
second_opposite : (v : Pair) → (opposite v).second ≡ negative v.second
unfolding opposite
second_opposite v = refl

pub leader_opposite : (v : Pair) → leader (opposite v).second ≡ neg_ℤ (leader v.second)
leader_opposite v = ap leader (second_opposite v) ∙ leader_negative v.second

changes_is : (v : Pair) → changes v ≡ is_negative (leader v.second)
unfolding changes
changes_is v = refl

oriented_by : (v : Pair) (t : Bool) → changes v ≡ t → oriented v ≡ cond t (opposite v) v
unfolding oriented
oriented_by v t e = ap (λ t. cond t (opposite v) v) e

pub oriented_cases : (v : Pair) → (oriented v ≡ v) ⊎ (oriented v ≡ opposite v)
oriented_cases v = go (changes v) refl
  where
    go : (t : Bool) → changes v ≡ t → (oriented v ≡ v) ⊎ (oriented v ≡ opposite v)
    go true e = inr (oriented_by v true e)
    go false e = inl (oriented_by v false e)

pub oriented_positive : (v : Pair) → not (is_zero (leader v.second)) ≡ true → is_positive (leader (oriented v).second) ≡ true
oriented_positive v h = go (changes v) refl
  where
    go : (t : Bool) → changes v ≡ t → is_positive (leader (oriented v).second) ≡ true
    go true e = ap (λ (w : Pair). is_positive (leader w.second)) (oriented_by v true e) ∙ ap is_positive (leader_opposite v)
        ∙ negative_turned (leader v.second) (sym (changes_is v) ∙ e)
    go false e = ap (λ (w : Pair). is_positive (leader w.second)) (oriented_by v false e)
        ∙ neither_positive (leader v.second) (sym (changes_is v) ∙ e) h

-- a pair with a positive leader is kept, and its negative turned to it
module _ (v : Pair) (up : is_positive (leader v.second) ≡ true) where
  pub up_kept : changes v ≡ false
  up_kept = changes_is v ∙ positive_kept (leader v.second) up

  pub up_changed : changes (opposite v) ≡ true
  up_changed = changes_is (opposite v) ∙ ap is_negative (leader_opposite v) ∙ positive_turned (leader v.second) up

  pub up_oriented : oriented v ≡ v
  up_oriented = oriented_by v false up_kept

  pub up_back : oriented (opposite v) ≡ v
  up_back = oriented_by (opposite v) true up_changed ∙ opposite_opposite v

pub oriented_size : (n : ℕ) (v : Pair) → PairOf n v → PairOf n (oriented v)
oriented_size n v p = elim (oriented_cases v) [ inl e ↦ rw e p | inr e ↦ rw e (opposite_size n v p) ]

pub oriented_congruent : (v h : Pair) → Congruent 2 v h → Congruent 2 (oriented v) h
oriented_congruent v h c = elim (oriented_cases v) [ inl e ↦ rw e c | inr e ↦ rw e (congruent_opposite v h c) ]
