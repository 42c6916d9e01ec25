-- Sums, multiples and inner products of lists of integers.
use Rattle.std.proofs.Common.{◌≡◌, ℕ, zero, suc, List, [], ◌∷◌, ◌++◌, map, reverse, length, replicate, ℤ, pos, ◌+ℤ◌, ◌*ℤ◌, neg_ℤ, sym, refl, ap, ◌∙◌, arith}
use lib.IntN.{+ℤ_comm, +ℤ_assoc, *ℤ_comm, +ℤ_idl, +ℤ_idr, neg_ℤ-neg_ℤ, +ℤ_invr, neg_ℤ-+ℤ, zero-*ℤ, *ℤ-zero}
use Rattle.std.proofs.lemmas.List.{map-append, reverse-append}
use Rattle.ring.specs.Elements.{dot, sum, negative}
use Rattle.algebra.proofs.Integers.{*ℤ_assoc, *ℤ_sum, sum_*ℤ, *ℤ_neg, +ℤ_swap}

pub reverse_cons : {X : Type 0} (x : X) (a : List X) → reverse (x ∷ a) ≡ reverse a ++ x ∷ []
reverse_cons x a = reverse-append (x ∷ []) a

pub map_reverse : {X Y : Type 0} (f : X → Y) (a : List X) → map f (reverse a) ≡ reverse (map f a)
map_reverse f [] = refl
map_reverse {Y} f (x ∷ a) =
    ap (map f) (reverse_cons x a) ∙ map-append f (reverse a) (x ∷ []) ∙ ap (λ (l : List Y). l ++ f x ∷ []) (map_reverse f a) ∙ sym (reverse_cons (f x) (map f a))

-- c times each number
abbrev pub scaled : ℤ → List ℤ → List ℤ
scaled c a = map (λ x. c *ℤ x) a

pub sum_cons : (x y : ℤ) (a b : List ℤ) → sum (x ∷ a) (y ∷ b) ≡ (x +ℤ y) ∷ sum a b
unfolding sum
sum_cons x y a b = refl

pub sum_comm : (a b : List ℤ) → sum a b ≡ sum b a
unfolding sum
sum_comm [] [] = refl
sum_comm [] (y ∷ b) = refl
sum_comm (x ∷ a) [] = refl
sum_comm (x ∷ a) (y ∷ b) = rw (+ℤ_comm x y, sum_comm a b)

pub sum_assoc : (a b c : List ℤ) → sum (sum a b) c ≡ sum a (sum b c)
unfolding sum
sum_assoc [] b c = refl
sum_assoc (x ∷ a) [] c = refl
sum_assoc (x ∷ a) (y ∷ b) [] = refl
sum_assoc (x ∷ a) (y ∷ b) (z ∷ c) = rw (+ℤ_assoc x y z, sum_assoc a b c)

-- the list of zeros
pub sum_zeros : (a : List ℤ) (n : ℕ) → length a ≡ n → sum a (replicate n (pos 0)) ≡ a
unfolding sum
sum_zeros [] n p = refl
sum_zeros (x ∷ a) zero p = absurd (omega arith)
sum_zeros (x ∷ a) (suc n) p = rw (+ℤ_idr x, sum_zeros a n (omega arith))

pub sum_negative : (a : List ℤ) (n : ℕ) → length a ≡ n → sum a (negative a) ≡ replicate n (pos 0)
unfolding sum negative
sum_negative [] zero p = refl
sum_negative [] (suc n) p = absurd (omega arith)
sum_negative (x ∷ a) zero p = absurd (omega arith)
sum_negative (x ∷ a) (suc n) p = rw (+ℤ_invr x) (ap {B = List ℤ} (λ t. pos 0 ∷ t) (sum_negative a n (omega arith)))

pub sum_append : (a b c d : List ℤ) → length a ≡ length b → sum (a ++ c) (b ++ d) ≡ sum a b ++ sum c d
unfolding sum
sum_append [] [] c d e = refl
sum_append [] (y ∷ b) c d e = absurd (omega arith)
sum_append (x ∷ a) [] c d e = absurd (omega arith)
sum_append (x ∷ a) (y ∷ b) c d e = rw (sum_append a b c d (omega arith))

pub scaled_sum : (c : ℤ) (a b : List ℤ) → scaled c (sum a b) ≡ sum (scaled c a) (scaled c b)
unfolding sum
scaled_sum c [] b = refl
scaled_sum c (x ∷ a) [] = refl
scaled_sum c (x ∷ a) (y ∷ b) = rw (*ℤ_sum c x y, scaled_sum c a b)

pub scaled_scaled : (c d : ℤ) (a : List ℤ) → scaled c (scaled d a) ≡ scaled (c *ℤ d) a
scaled_scaled c d [] = refl
scaled_scaled c d (x ∷ a) = rw (*ℤ_assoc c d x, scaled_scaled c d a)

pub scaled_zero : (a : List ℤ) (n : ℕ) → length a ≡ n → scaled (pos 0) a ≡ replicate n (pos 0)
scaled_zero [] zero p = refl
scaled_zero [] (suc n) p = absurd (omega arith)
scaled_zero (x ∷ a) zero p = absurd (omega arith)
scaled_zero (x ∷ a) (suc n) p = rw (zero-*ℤ x, scaled_zero a n (omega arith))

pub negative_sum : (a b : List ℤ) → negative (sum a b) ≡ sum (negative a) (negative b)
unfolding sum negative
negative_sum [] b = refl
negative_sum (x ∷ a) [] = refl
negative_sum (x ∷ a) (y ∷ b) = rw (neg_ℤ-+ℤ x y, negative_sum a b)

pub negative_scaled : (c : ℤ) (a : List ℤ) → negative (scaled c a) ≡ scaled c (negative a)
unfolding negative
negative_scaled c [] = refl
negative_scaled c (x ∷ a) = rw (*ℤ_neg c x, negative_scaled c a)

pub negative_negative : (a : List ℤ) → negative (negative a) ≡ a
unfolding negative
negative_negative [] = refl
negative_negative (x ∷ a) = rw (neg_ℤ-neg_ℤ x, negative_negative a)

pub dot_comm : (a b : List ℤ) → dot a b ≡ dot b a
unfolding dot
dot_comm [] [] = refl
dot_comm [] (y ∷ b) = refl
dot_comm (x ∷ a) [] = refl
dot_comm (x ∷ a) (y ∷ b) = rw (*ℤ_comm x y, dot_comm a b)

pub dot_sum : (a b c : List ℤ) → length a ≡ length b → dot (sum a b) c ≡ dot a c +ℤ dot b c
unfolding sum dot
dot_sum [] [] c e = refl
dot_sum [] (y ∷ b) c e = absurd (omega arith)
dot_sum (x ∷ a) [] c e = absurd (omega arith)
dot_sum (x ∷ a) (y ∷ b) [] e = refl
dot_sum (x ∷ a) (y ∷ b) (z ∷ c) e =
    rw (sum_*ℤ x y z, dot_sum a b c (omega arith)) (+ℤ_swap (x *ℤ z) (y *ℤ z) (dot a c) (dot b c))

pub dot_scaled : (k : ℤ) (a b : List ℤ) → dot (scaled k a) b ≡ k *ℤ dot a b
unfolding dot
dot_scaled k [] b = sym (*ℤ-zero k)
dot_scaled k (x ∷ a) [] = sym (*ℤ-zero k)
dot_scaled k (x ∷ a) (y ∷ b) = rw (dot_scaled k a b, *ℤ_assoc k x y) (sym (*ℤ_sum k (x *ℤ y) (dot a b)))

pub dot_append : (a b c d : List ℤ) → length a ≡ length c → dot (a ++ b) (c ++ d) ≡ dot a c +ℤ dot b d
unfolding dot
dot_append [] b [] d e = sym (+ℤ_idl (dot b d))
dot_append [] b (y ∷ c) d e = absurd (omega arith)
dot_append (x ∷ a) b [] d e = absurd (omega arith)
dot_append (x ∷ a) b (y ∷ c) d e = rw (dot_append a b c d (omega arith)) (sym (+ℤ_assoc (x *ℤ y) (dot a c) (dot b d)))

pub dot_negative : (a b : List ℤ) → dot a (negative b) ≡ neg_ℤ (dot a b)
unfolding dot negative
dot_negative [] b = refl
dot_negative (x ∷ a) [] = refl
dot_negative (x ∷ a) (y ∷ b) = rw (*ℤ_neg x y, dot_negative a b) (sym (neg_ℤ-+ℤ (x *ℤ y) (dot a b)))

pub dot_zeros : (n : ℕ) (a : List ℤ) → dot (replicate n (pos 0)) a ≡ pos 0
unfolding dot
dot_zeros zero a = refl
dot_zeros (suc n) [] = refl
dot_zeros (suc n) (x ∷ a) = rw (zero-*ℤ x, dot_zeros n a)

pub negative_append : (a b : List ℤ) → negative (a ++ b) ≡ negative a ++ negative b
unfolding negative
negative_append a b = map-append neg_ℤ a b
