-- Lists of m + 1 integers as one type, so that laws have no side conditions: sums, multiples and inner products.
use Rattle.std.proofs.Common.{◌≡◌, ℕ, zero, suc, ◌-◌, List, [], ◌∷◌, ◌++◌, length, replicate, ℤ, pos, ◌+ℤ◌, ◌*ℤ◌, neg_ℤ, sym, refl, ap, ◌∙◌, subst, arith, length-append}
use native.Mathlib.Nat.{ℕ_set}
use lib.ListN.{length-map}
use lib.IntN.{*ℤ_comm}
use Rattle.std.proofs.lemmas.List.{length-replicate, take_at, drop_at}
use Rattle.ring.specs.Elements.{dot, sum, negative, adjoint, turned, constant}
use Rattle.algebra.proofs.Sizes.{length_sum, length_negative, length_adjoint, length_turned, length_constant}
use Rattle.algebra.proofs.Lists.{scaled, sum_comm, sum_assoc, sum_zeros, sum_negative, scaled_sum, scaled_scaled, scaled_zero, negative_sum, negative_negative, dot_comm, dot_sum, dot_scaled, dot_negative, dot_zeros}

pub record El (m : ℕ) : Type 0 where
  pub list : List ℤ
  pub size : length list ≡ suc m

abbrev pub el : {m : ℕ} (a : List ℤ) → length a ≡ suc m → El m
el a h = record { list = a; size = h }

pub same : {m : ℕ} (a b : El m) → a.list ≡ b.list → a ≡ b
same {m} a b e = subst (λ (l : List ℤ). (h : length l ≡ suc m) → a ≡ el l h) e (λ h. ap (λ k. el a.list k) (ℕ_set _ _ a.size h)) b.size

-- a list that is not empty has a last number
pub ended : (a : List ℤ) (m : ℕ) → length a ≡ suc m → (u : List ℤ) × (x : ℤ) × (a ≡ u ++ x ∷ []) × (length u ≡ m)
ended [] m h = absurd (omega arith)
ended (x ∷ []) m h = ([], x, refl, omega arith)
ended (x ∷ y ∷ a) zero h = absurd (omega arith)
ended (x ∷ y ∷ a) (suc m) h = let t = ended (y ∷ a) m (omega arith) in (x ∷ t.0, t.1, ap {B = List ℤ} (λ l. x ∷ l) t.2, omega (arith, t.3))

pub turn_push : (u : List ℤ) (x : ℤ) → turned 1 (u ++ x ∷ []) ≡ neg_ℤ x ∷ u
unfolding turned
turn_push u x =
    let e : length (u ++ x ∷ []) - 1 ≡ length u = rw (length-append u (x ∷ [])) (omega arith) in
    rw (e, drop_at u (x ∷ []) (length u) refl, take_at u (x ∷ []) (length u) refl)

-- a divided by X
unfoldable pub backed : List ℤ → List ℤ
backed [] = []
backed (x ∷ a) = a ++ neg_ℤ x ∷ []

infixl 65 ◌⊕◌
infixl 70 ◌∙∙◌
unfoldable pub ◌⊕◌ : {m : ℕ} → El m → El m → El m
◌⊕◌ {m} a b = el (sum a.list b.list) (length_sum a.list b.list (suc m) a.size b.size)

unfoldable pub ⊖ : {m : ℕ} → El m → El m
⊖ {m} a = el (negative a.list) (length_negative a.list ∙ a.size)

unfoldable pub ◌∙∙◌ : {m : ℕ} → ℤ → El m → El m
c ∙∙ a = el (scaled c a.list) (length-map a.list (λ x. c *ℤ x) ∙ a.size)

unfoldable pub 𝟎 : {m : ℕ} → El m
𝟎 {m} = el (replicate (suc m) (pos 0)) (length-replicate (suc m) (pos 0))

unfoldable pub 𝟏 : {m : ℕ} → El m
𝟏 {m} = el (constant (suc m) (pos 1)) (length_constant (suc m) (pos 1))

unfoldable pub inner : {m : ℕ} → El m → El m → ℤ
inner a b = dot a.list b.list

unfoldable pub turn : {m : ℕ} → El m → El m
turn a = el (turned 1 a.list) (length_turned 1 a.list ∙ a.size)

pub length_backed : (a : List ℤ) → length (backed a) ≡ length a
unfolding backed
length_backed [] = refl
length_backed (x ∷ a) = length-append a (neg_ℤ x ∷ []) ∙ omega arith

unfoldable pub back : {m : ℕ} → El m → El m
back a = el (backed a.list) (length_backed a.list ∙ a.size)

unfoldable pub star : {m : ℕ} → El m → El m
star a = el (adjoint a.list) (length_adjoint a.list ∙ a.size)

-- ---- the group of sums
pub ⊕_comm : {m : ℕ} (a b : El m) → a ⊕ b ≡ b ⊕ a
unfolding ◌⊕◌
⊕_comm a b = same _ _ (sum_comm a.list b.list)

pub ⊕_assoc : {m : ℕ} (a b c : El m) → (a ⊕ b) ⊕ c ≡ a ⊕ (b ⊕ c)
unfolding ◌⊕◌
⊕_assoc a b c = same _ _ (sum_assoc a.list b.list c.list)

pub ⊕_zero : {m : ℕ} (a : El m) → a ⊕ 𝟎 ≡ a
unfolding ◌⊕◌ 𝟎
⊕_zero {m} a = same _ _ (sum_zeros a.list (suc m) a.size)

pub zero_⊕ : {m : ℕ} (a : El m) → 𝟎 ⊕ a ≡ a
zero_⊕ a = ⊕_comm 𝟎 a ∙ ⊕_zero a

pub ⊕_neg : {m : ℕ} (a : El m) → a ⊕ ⊖ a ≡ 𝟎
unfolding ◌⊕◌ 𝟎 ⊖
⊕_neg {m} a = same _ _ (sum_negative a.list (suc m) a.size)

pub ⊖_⊖ : {m : ℕ} (a : El m) → ⊖ (⊖ a) ≡ a
unfolding ⊖
⊖_⊖ a = same _ _ (negative_negative a.list)

pub ⊖_sum : {m : ℕ} (a b : El m) → ⊖ (a ⊕ b) ≡ ⊖ a ⊕ ⊖ b
unfolding ⊖ ◌⊕◌
⊖_sum a b = same _ _ (negative_sum a.list b.list)

pub ⊕_swap : {m : ℕ} (a b c d : El m) → (a ⊕ b) ⊕ (c ⊕ d) ≡ (a ⊕ c) ⊕ (b ⊕ d)
⊕_swap a b c d = ⊕_assoc a b (c ⊕ d) ∙ ap (λ t. a ⊕ t) (sym (⊕_assoc b c d) ∙ ap (λ t. t ⊕ d) (⊕_comm b c) ∙ ⊕_assoc c b d) ∙ sym (⊕_assoc a c (b ⊕ d))

-- ---- multiples
pub scale_sum : {m : ℕ} (c : ℤ) (a b : El m) → c ∙∙ (a ⊕ b) ≡ c ∙∙ a ⊕ c ∙∙ b
unfolding ◌∙∙◌ ◌⊕◌
scale_sum c a b = same _ _ (scaled_sum c a.list b.list)

pub scale_scale : {m : ℕ} (c d : ℤ) (a : El m) → c ∙∙ (d ∙∙ a) ≡ d ∙∙ (c ∙∙ a)
unfolding ◌∙∙◌
scale_scale c d a = same _ _ (scaled_scaled c d a.list ∙ ap (λ t. scaled t a.list) (*ℤ_comm c d) ∙ sym (scaled_scaled d c a.list))

pub scale_zero : {m : ℕ} (a : El m) → pos 0 ∙∙ a ≡ 𝟎
unfolding ◌∙∙◌ 𝟎
scale_zero {m} a = same _ _ (scaled_zero a.list (suc m) a.size)

-- ---- inner products
pub inner_comm : {m : ℕ} (a b : El m) → inner a b ≡ inner b a
unfolding inner
inner_comm a b = dot_comm a.list b.list

pub inner_sum : {m : ℕ} (a b c : El m) → inner (a ⊕ b) c ≡ inner a c +ℤ inner b c
unfolding inner ◌⊕◌
inner_sum a b c = dot_sum a.list b.list c.list (a.size ∙ sym b.size)

pub inner_scale : {m : ℕ} (k : ℤ) (a b : El m) → inner (k ∙∙ a) b ≡ k *ℤ inner a b
unfolding inner ◌∙∙◌
inner_scale k a b = dot_scaled k a.list b.list

pub inner_zero : {m : ℕ} (a : El m) → inner 𝟎 a ≡ pos 0
unfolding inner 𝟎
inner_zero {m} a = dot_zeros (suc m) a.list

pub inner_neg : {m : ℕ} (a b : El m) → inner a (⊖ b) ≡ neg_ℤ (inner a b)
unfolding inner ⊖
inner_neg a b = dot_negative a.list b.list

-- a map that keeps sums and multiples
pub record Linear {m : ℕ} (T : El m → El m) : Type 0 where
  pub of_sum : (a b : El m) → T (a ⊕ b) ≡ T a ⊕ T b
  pub of_multiple : (c : ℤ) (a : El m) → T (c ∙∙ a) ≡ c ∙∙ T a

pub of_zero : {m : ℕ} (T : El m → El m) → Linear T → T 𝟎 ≡ 𝟎
of_zero T l = ap T (sym (scale_zero 𝟎)) ∙ l.of_multiple (pos 0) 𝟎 ∙ scale_zero (T 𝟎)
