-- A hash's bits determine its bytes, and so does a sample in the coset of the hash.
use Rattle.std.proofs.Common.{◌≡◌, ℕ, zero, suc, ◌+◌, ◌-◌, ◌*◌, ◌/◌, ◌%◌, ◌^◌, ◌<◌, List, map, length, get_or, pos, sym, refl, ap, ◌∙◌, inl, inr, mod-lt, mod-eq_of_lt, one-add, arith}
use Rattle.std.specs.List.{range_with_len, AllByRecursion}
use Rattle.std.proofs.lemmas.Nat.{mod-pow-add, div-mul-add, mod-mul-add}
use Rattle.std.proofs.lemmas.List.FromFn.{length-map-range_with_len, get_or-map-range_with_len}
use Rattle.std.proofs.ByRecursion.{All-get_or}
use Rattle.std.proofs.lemmas.List.{ext_get_or, get_or-map}
use Rattle.std.proofs.lemmas.Bool.{cases_lt}
use Rattle.ring.specs.Kinds.{rest}
use Rattle.ring.proofs.Residues.{rest_small}
use Rattle.scheme.specs.Hashes.{hash_bit, hash_pair}
use Rattle.algebra.specs.Isometries.{Congruent}

-- numbers with the same low bits
same_low : (x y k : ℕ) → ((i : ℕ) → i < k → x / 2 ^ i % 2 ≡ y / 2 ^ i % 2) → x % 2 ^ k ≡ y % 2 ^ k
same_low x y zero h = let p = mod-lt x {m = 1} (omega arith) in let q = mod-lt y {m = 1} (omega arith) in omega arith
same_low x y (suc k) h =
    let top = h k (omega arith) in
    let low = same_low x y k (λ i l. h i (omega arith)) in
    rw (← one-add k, mod-pow-add x 1 k, mod-pow-add y 1 k, top, low)

same_byte : (x y : ℕ) → x < 256 → y < 256 → ((i : ℕ) → i < 8 → x / 2 ^ i % 2 ≡ y / 2 ^ i % 2) → x ≡ y
same_byte x y p q h = sym (mod-eq_of_lt p) ∙ same_low x y 8 h ∙ mod-eq_of_lt q

bit_at : List ℕ → ℕ → ℕ
bit_at hash i = get_or hash (i / 8) 0 / 2 ^ (i % 8) % 2

bit_read : (hash : List ℕ) (a n i : ℕ) → i < n → get_or (map (rest 2) (map (hash_bit hash) (range_with_len a n))) i 0 ≡ bit_at hash (a + i)
unfolding hash_bit bit_at
bit_read hash a n i h =
    let long : i < length (map (hash_bit hash) (range_with_len a n)) = rw (length-map-range_with_len (hash_bit hash) a n) h in
    get_or-map (rest 2) (map (hash_bit hash) (range_with_len a n)) i (pos 0) 0 long
    ∙ ap (rest 2) (get_or-map-range_with_len (hash_bit hash) a n i (a + i) (pos 0) h refl)
    ∙ rest_small 2 (get_or hash ((a + i) / 8) 0 / 2 ^ ((a + i) % 8) % 2) (mod-lt _ (omega arith))

same_bits : (n : ℕ) (g h : List ℕ) → Congruent 2 (hash_pair n g) (hash_pair n h) → (i : ℕ) → i < 2 * n → bit_at g i ≡ bit_at h i
unfolding hash_pair
same_bits n g h e i l = elim (cases_lt i n) [
  | inl k ↦ ap (bit_at g) (omega arith) ∙ sym (bit_read g 0 n i k) ∙ ap (λ t. get_or t i 0) e.0 ∙ bit_read h 0 n i k ∙ ap (bit_at h) (omega arith)
  | inr k ↦
      ap (bit_at g) (omega arith) ∙ sym (bit_read g n n (i - n) (omega arith)) ∙ ap (λ t. get_or t (i - n) 0) e.1
      ∙ bit_read h n n (i - n) (omega arith) ∙ ap (bit_at h) (omega arith)
]

pub same_bytes : (n : ℕ) (g h : List ℕ) → length g * 8 ≡ 2 * n → length g ≡ length h → AllByRecursion (λ byte. byte < 256) g → AllByRecursion (λ byte. byte < 256) h
    → Congruent 2 (hash_pair n g) (hash_pair n h) → g ≡ h
unfolding bit_at
same_bytes n g h long same p q e =
    ext_get_or 0 g h same (λ i l. same_byte (get_or g i 0) (get_or h i 0) (All-get_or (λ byte. byte < 256) g i 0 l p) (All-get_or (λ byte. byte < 256) h i 0 (omega arith) q)
    (λ k m.
    let d = div-mul-add i 8 k m in
    let r = mod-mul-add i 8 k m in
    let bits = same_bits n g h e (i * 8 + k) (omega arith) in
    rw (d, r) at bits))
