-- Numbers modulo 2 as bits.
use Rattle.std.proofs.Common.{◌≡◌, ℕ, zero, suc, ◌/◌, ◌%◌, ◌^◌, ◌<◌, cond, eqb, List, get_or, ℤ, pos, negsuc, nat_abs, refl, ap, ◌∙◌, mod-lt, arith, lit<, w64, of_z}
use Rattle.std.specs.Int.{int_rem_euclid}
use Rattle.ring.specs.Kinds.{rest}
use Rattle.ring.specs.Below.{rest_below}
use Rattle.scheme.specs.Hashes.{hash_bit}

bit_back : (k : ℕ) → k < 2 → cond (eqb k 1) 1 0 ≡ k
bit_back zero h = refl
bit_back (suc zero) h = refl
bit_back (suc (suc k)) h = absurd (omega arith)

pub parity_is : (r s z : ℤ) → r ≡ int_rem_euclid s (pos 2) → s ≡ z → cond (eqb (of_z w64 r) 1) 1 0 ≡ rest 2 z
unfolding rest
parity_is r s z e f = ap (λ t. cond (eqb (of_z w64 t) 1) 1 0) (e ∙ ap (λ t. int_rem_euclid t (pos 2)) f) ∙ go z
  where
    go : (z : ℤ) → cond (eqb (of_z w64 (int_rem_euclid z (pos 2))) 1) 1 0 ≡ nat_abs (int_rem_euclid z (pos 2))
    go (pos a) = bit_back (a % 2) (rest_below 2 (pos a) (lit< tt))
    go (negsuc a) = bit_back _ (rest_below 2 (negsuc a) (lit< tt))

pub hash_small : (hash : List ℕ) (i r : ℕ) → pos r ≡ hash_bit hash i → r < 2
unfolding hash_bit
hash_small hash i r e = let below : get_or hash (i / 8) 0 / 2 ^ (i % 8) % 2 < 2 = mod-lt (get_or hash (i / 8) 0 / 2 ^ (i % 8)) (lit< tt) in omega (arith, ap nat_abs e, below)

pub hash_bit_is : (hash : List ℕ) (i r : ℕ) → pos r ≡ hash_bit hash i → pos (cond (eqb r 1) 1 0) ≡ hash_bit hash i
hash_bit_is hash i r e = ap pos (bit_back r (hash_small hash i r e)) ∙ e
