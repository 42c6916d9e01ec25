-- Every operation on elements keeps their length.
use Rattle.std.proofs.Common.{◌≡◌, ℕ, zero, suc, ◌-◌, List, [], ◌∷◌, map, reverse, length, take, drop, replicate, ℤ, pos, neg_ℤ, refl, ap, ◌∙◌, arith, length-append}
use lib.ListN.{length-map}
use Rattle.std.proofs.lemmas.List.{length-replicate, length-drop, length-take, length-reverse}
use Rattle.std.proofs.lemmas.List.FromFn.{length-map-range_with_len}
use Rattle.ring.specs.Elements.{coefficient, product, sum, negative, difference, adjoint, turned, constant}

pub length_sum : (a b : List ℤ) (n : ℕ) → length a ≡ n → length b ≡ n → length (sum a b) ≡ n
unfolding sum
length_sum [] b n p q = p
length_sum (x ∷ a) [] n p q = q
length_sum (x ∷ a) (y ∷ b) zero p q = absurd (omega arith)
length_sum (x ∷ a) (y ∷ b) (suc n) p q = ap suc (length_sum a b n (omega arith) (omega arith))

pub length_negative : (a : List ℤ) → length (negative a) ≡ length a
unfolding negative
length_negative a = length-map a neg_ℤ

pub length_difference : (a b : List ℤ) (n : ℕ) → length a ≡ n → length b ≡ n → length (difference a b) ≡ n
unfolding difference
length_difference a b n p q = length_sum a (negative b) n p (length_negative b ∙ q)

pub length_product : (a b : List ℤ) → length (product a b) ≡ length a
unfolding product
length_product a b = length-map-range_with_len (coefficient a b) 0 (length a)

pub length_adjoint : (a : List ℤ) → length (adjoint a) ≡ length a
unfolding adjoint
length_adjoint [] = refl
length_adjoint (x ∷ a) = ap suc (length-map (reverse a) neg_ℤ ∙ length-reverse a)

pub length_turned : (k : ℕ) (a : List ℤ) → length (turned k a) ≡ length a
unfolding turned
length_turned k a =
    length-append (map neg_ℤ (drop (length a - k) a)) (take (length a - k) a)
    ∙ rw (length-map (drop (length a - k) a) neg_ℤ, length-drop (length a - k) a, length-take (length a - k) a) (omega arith)

pub length_constant : (n : ℕ) (c : ℤ) → length (constant n c) ≡ n
unfolding constant
length_constant n c = length-take n (c ∷ replicate n (pos 0)) ∙ rw (length-replicate n (pos 0)) (omega arith)
