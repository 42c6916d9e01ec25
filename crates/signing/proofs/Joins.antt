-- a·x + b·y, exactly and modulo 2.
use Rattle.std.proofs.Common.{◌≡◌, ℕ, ◌<◌, ◌≤◌, Bool, true, false, cond, List, [], ◌∷◌, ◌++◌, map, length, get_or, ℤ, pos, ◌+ℤ◌, sym, refl, ap, ◌∙◌, arith, lit<}
use Rattle.std.specs.List.{range_with_len}
use Rattle.std.proofs.lemmas.List.{map-append}
use Rattle.ring.specs.Classes.{size_of}
use Rattle.ring.specs.declared.class.Class.{Class}
use Rattle.ring.specs.declared.class.Class.TheVariants.{One, Two, Three, Four}
use Rattle.ring.specs.Elements.{coefficient, product, sum}
use Rattle.ring.specs.Kinds.{rest, values, bit_value}
use Rattle.ring.specs.declared.kind.Bit.{Bit}
use Rattle.ring.proofs.Exact.{same_coefficient, values_alike}
use Rattle.ring.proofs.Places.{length_product, length_sum, product_at, sum_at}
use Rattle.ring.proofs.Residues.{rest_small, sum_of}
use Rattle.scheme.specs.Hashes.{hash_bit, hash_pair}
use Rattle.scheme.specs.Keys.{Basis}
use Rattle.scheme.specs.Matrices.{applied, basis_of}
use Rattle.scheme.specs.Pairs.{numbers_of, parities}
use Rattle.scheme.specs.Signing.{target_of}
use Rattle.signing.specs.Rows.{BitsOf, joined}

pub size_small : (class : Class) → size_of class ≤ 1024
size_small One = omega arith
size_small Two = omega arith
size_small Three = omega arith
size_small Four = omega arith

pub length_joined : (a b x y : List ℤ) → length b ≡ length a → length (joined a b x y) ≡ length a
unfolding joined
length_joined a b x y same = length_sum (product a x) (product b y) (length_product a x ∙ sym same ∙ sym (length_product b y)) ∙ length_product a x

joined_at : (a b x y : List ℤ) (k : ℕ) → k < length a → k < length b → get_or (joined a b x y) k (pos 0) ≡ coefficient a x k +ℤ coefficient b y k
unfolding joined
joined_at a b x y k h j =
    let la = length_product a x in
    let lb = length_product b y in
    sum_at (product a x) (product b y) k (omega arith) (omega arith) ∙ rw (product_at a x k h, product_at b y k j)

-- bits are their own residues
bit_small : (b : Bit) → bit_value b < 2
bit_small b = elim b.0 as (λ (v : Bool). cond v 1 0 < 2) [ true ↦ lit< tt | false ↦ lit< tt ]

own_bits : (x : List Bit) → BitsOf x (values bit_value x)
own_bits [] = refl
own_bits (b ∷ x) = ap (λ k. k ∷ map bit_value x) (sym (rest_small 2 (bit_value b) (bit_small b))) ∙ ap (λ ks. rest 2 (pos (bit_value b)) ∷ ks) (own_bits x)

-- one coefficient, by the bits of the numbers
product_bit : (a : List ℤ) (p x : List Bit) (k s : ℕ) → BitsOf p a → s ≡ rest 2 (coefficient (values bit_value p) (values bit_value x) k) → s ≡ rest 2 (coefficient a (values bit_value x) k)
product_bit a p x k s e es =
    es
    ∙ ap (λ c. rest 2 (coefficient c (values bit_value x) k)) (values_alike bit_value (rest 2) p a e)
    ∙ ap (λ c. rest 2 (coefficient (values (rest 2) a) c k)) (values_alike bit_value (rest 2) x (values bit_value x) (own_bits x))
    ∙ same_coefficient 2 (lit< tt) a (values bit_value x) k

pub joined_bit : (a b : List ℤ) (p q x y : List Bit) (k r s t : ℕ) → k < length a → k < length b → BitsOf p a → BitsOf q b → r ≡ rest 2 (pos s +ℤ pos t)
    → s ≡ rest 2 (coefficient (values bit_value p) (values bit_value x) k) → t ≡ rest 2 (coefficient (values bit_value q) (values bit_value y) k)
    → r ≡ rest 2 (get_or (joined a b (values bit_value x) (values bit_value y)) k (pos 0))
joined_bit a b p q x y k r s t h j ea eb er es et =
    sum_of 2 r s t _ _ (lit< tt) er (product_bit a p x k s ea es) (product_bit b q y k t eb et) ∙ ap (rest 2) (sym (joined_at a b (values bit_value x) (values bit_value y) k h j))

-- the same row, of equal elements
pub row_same : (t : List Bit) (a b x y a' b' x' y' : List ℤ) → a ≡ a' → b ≡ b' → x ≡ x' → y ≡ y' → BitsOf t (joined a b x y) → BitsOf t (joined a' b' x' y')
row_same t a b x y a' b' x' y' ea eb ex ey h = h ∙ rw (ea, eb, ex, ey)

-- the two rows of the basis make the target
pub target_is : (n : ℕ) (b : Basis) (hash : List ℕ) (t u : List Bit)
    → BitsOf t (joined b.f b.F (map (hash_bit hash) (range_with_len 0 n)) (map (hash_bit hash) (range_with_len n n)))
    → BitsOf u (joined b.g b.G (map (hash_bit hash) (range_with_len 0 n)) (map (hash_bit hash) (range_with_len n n)))
    → map bit_value (t ++ u) ≡ target_of b (hash_pair n hash)
unfolding target_of parities numbers_of applied basis_of hash_pair joined
target_is n b hash t u et eu =
    map-append bit_value t u
    ∙ ap (λ s. s ++ map bit_value u) et
    ∙ ap (λ s. map (rest 2) (sum (product b.f (map (hash_bit hash) (range_with_len 0 n))) (product b.F (map (hash_bit hash) (range_with_len n n)))) ++ s) eu
    ∙ sym (map-append (rest 2) (sum (product b.f (map (hash_bit hash) (range_with_len 0 n))) (product b.F (map (hash_bit hash) (range_with_len n n)))) (sum (product b.g (map (hash_bit hash) (range_with_len 0 n))) (product b.G (map (hash_bit hash) (range_with_len n n)))))
