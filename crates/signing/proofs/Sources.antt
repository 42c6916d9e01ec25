-- v = B⁻¹·x as two differences of products, and the signature as two halves.
use Rattle.std.proofs.Common.{◌≡◌, ℕ, ◌+◌, Bool, true, false, cond, List, [], ◌∷◌, ◌++◌, map, length, take, drop, ℤ, pos, negsuc, ◌+ℤ◌, ◌*ℤ◌, neg_ℤ, refl, ap, ◌∙◌, arith}
use borrow.Author.Differences.{same_in, sum_is_lem, neg_is, product_is}
use lib.IntN.{+ℤ_comm}
use lib.Signed.{lt_z}
use Rattle.std.specs.List.{range_with_len}
use Rattle.std.proofs.lemmas.List.{take-map, drop-map}
use Rattle.std.proofs.lemmas.Bool.{le-ltb}
use Rattle.ring.specs.Elements.{dot, crossed, coefficient, product, sum, negative, difference}
use Rattle.ring.proofs.Places.{length_negative}
use Rattle.scheme.specs.Hashes.{hash_bit, hash_pair}
use Rattle.scheme.specs.Keys.{Basis}
use Rattle.scheme.specs.Matrices.{Pair, applied, inverse_of}
use Rattle.scheme.specs.Pairs.{pair, opposite, half_less, half, numbers_of, is_negative, leader}
use Rattle.scheme.specs.Signing.{source_of, changes, oriented, signature_of}
use Rattle.signing.specs.Rows.{apart, half_from}

neg_sum : (x y : ℤ) → neg_ℤ x +ℤ neg_ℤ y ≡ neg_ℤ (x +ℤ y)
neg_sum x y = same_in _ _ (omega (arith, sum_is_lem (neg_ℤ x) (neg_ℤ y), neg_is x, neg_is y, neg_is (x +ℤ y), sum_is_lem x y))

neg_product : (x y : ℤ) → neg_ℤ x *ℤ y ≡ neg_ℤ (x *ℤ y)
neg_product x y =
    same_in _ _ (rw (
      (product_is (neg_ℤ x) y).0,
      (product_is (neg_ℤ x) y).1,
      (neg_is (x *ℤ y)).0,
      (neg_is (x *ℤ y)).1,
      (product_is x y).0,
      (product_is x y).1,
      (neg_is x).0,
      (neg_is x).1,
    ) (omega arith))

-- a product with a negative
negative_dot : (a b : List ℤ) → dot (map neg_ℤ a) b ≡ neg_ℤ (dot a b)
unfolding dot
negative_dot [] b = refl
negative_dot (x ∷ a) [] = refl
negative_dot (x ∷ a) (y ∷ b) = ap (λ t. neg_ℤ x *ℤ y +ℤ t) (negative_dot a b) ∙ ap (λ t. t +ℤ neg_ℤ (dot a b)) (neg_product x y) ∙ neg_sum (x *ℤ y) (dot a b)

negative_coefficient : (a b : List ℤ) (k : ℕ) → coefficient (negative a) b k ≡ neg_ℤ (coefficient a b k)
unfolding coefficient crossed negative
negative_coefficient a b k =
    rw (take-map neg_ℤ (k + 1) a, drop-map neg_ℤ (k + 1) a, negative_dot (take (k + 1) a) _, negative_dot (drop (k + 1) a) _)
    (neg_sum (crossed (take (k + 1) a) (take (k + 1) b)) (neg_ℤ (crossed (drop (k + 1) a) (drop (k + 1) b))))

negative_product : (a b : List ℤ) → product (negative a) b ≡ negative (product a b)
unfolding product negative
negative_product a b = ap (λ n. map (coefficient (negative a) b) (range_with_len 0 n)) (length_negative a) ∙ go (range_with_len 0 (length a))
  where
    go : (ks : List ℕ) → map (coefficient (negative a) b) ks ≡ negative (map (coefficient a b) ks)
    go [] = refl
    go (k ∷ ks) = ap (λ z. z ∷ map (coefficient (negative a) b) ks) (negative_coefficient a b k) ∙ ap (λ zs. neg_ℤ (coefficient a b k) ∷ zs) (go ks)

sum_swap : (a b : List ℤ) → sum a b ≡ sum b a
unfolding sum
sum_swap [] [] = refl
sum_swap [] (y ∷ b) = refl
sum_swap (x ∷ a) [] = refl
sum_swap (x ∷ a) (y ∷ b) = ap (λ z. z ∷ sum a b) (+ℤ_comm x y) ∙ ap (λ zs. (y +ℤ x) ∷ zs) (sum_swap a b)

-- v0 = G·x0 − F·x1 and v1 = f·x1 − g·x0
pub first_is : (b : Basis) (x0 x1 : List ℤ) → (source_of b (pair x0 x1)).first ≡ apart b.G b.F x0 x1
unfolding source_of applied inverse_of apart difference
first_is b x0 x1 = ap (sum (product b.G x0)) (negative_product b.F x1)

pub second_is : (b : Basis) (x0 x1 : List ℤ) → (source_of b (pair x0 x1)).second ≡ apart b.f b.g x1 x0
unfolding source_of applied inverse_of apart difference
second_is b x0 x1 = ap (λ t. sum t (product b.f x1)) (negative_product b.g x0) ∙ sum_swap (negative (product b.g x0)) (product b.f x1)

-- the sign rule
pub below_zero : (z : ℤ) → lt_z z (pos 0) ≡ is_negative z
below_zero (pos k) = le-ltb k 0 (omega arith)
below_zero (negsuc k) = refl

-- the sign rule, by the leader of v1
pub changed_is : (v : Pair) (r : ℤ) → r ≡ leader v.second → lt_z r (pos 0) ≡ changes v
unfolding changes
changed_is v r e = below_zero r ∙ ap is_negative e

-- the signature, half by half
module _ (n : ℕ) (hash : List ℕ) where
  half_is : (from : ℕ) (changed : Bool) (v : List ℤ) → length v ≡ n → half_from hash from changed v ≡ map half (difference (map (hash_bit hash) (range_with_len from n)) (cond changed (negative v) v))
  unfolding half_from
  half_is from changed v long = ap (λ m. map half (difference (map (hash_bit hash) (range_with_len from m)) (cond changed (negative v) v))) long

  turned_is : (changed : Bool) (v : Pair) → length v.first ≡ n → length v.second ≡ n
      → half_from hash 0 changed v.first ++ half_from hash n changed v.second ≡ numbers_of (half_less (hash_pair n hash) (cond changed (opposite v) v))
  unfolding numbers_of half_less hash_pair opposite
  turned_is true v l0 l1 = rw (half_is 0 true v.first l0, half_is n true v.second l1)
  turned_is false v l0 l1 = rw (half_is 0 false v.first l0, half_is n false v.second l1)

  pub signature_is : (b : Basis) (x : Pair) (changed : Bool) → length (source_of b x).first ≡ n → length (source_of b x).second ≡ n → changed ≡ changes (source_of b x)
      → half_from hash 0 changed (source_of b x).first ++ half_from hash n changed (source_of b x).second ≡ numbers_of (signature_of b (hash_pair n hash) x)
  unfolding signature_of oriented
  signature_is b x changed l0 l1 e =
      let v = source_of b x in
      turned_is changed v l0 l1 ∙ ap (λ c. numbers_of (half_less (hash_pair n hash) (cond c (opposite v) v))) e
