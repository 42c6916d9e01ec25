-- v = h − 2s, place by place, and the first nonzero coefficient of v1.
use Rattle.std.proofs.Common.{◌≡◌, ℕ, suc, ◌+◌, ◌*◌, ◌/◌, ◌%◌, ◌^◌, ◌<◌, ◌≤◌, Bool, true, false, not, cond, eqb, List, [], ◌∷◌, map, length, get_or, take, drop, ℤ, pos, negsuc, Option, Some, None, MatchOption, unwrap_or, option_map, slice_index_or, ◌-ℤ◌, ◌*ℤ◌, neg_ℤ, nat_abs, sym, refl, ap, ◌∙◌, mod-lt, arith, lit<, w32, w64, SFits, to_z, of_z}
use lib.Signed.{lt_z}
use Rattle.std.specs.List.{range_with_len, prefix_len, find}
use Rattle.std.proofs.lemmas.List.FromFn.{length-map-range_with_len, get_or-map-range_with_len}
use Rattle.std.proofs.ByRecursion.{All-get_or, All-from_get_or}
use Rattle.std.proofs.lemmas.List.{length-map, get_or-map, length-take-le, length-drop}
use Rattle.std.proofs.lemmas.Int.{to_z-of_z}
use Rattle.std.proofs.lemmas.Bool.{ne_eqb}
use Rattle.ring.proofs.Places.{length_difference, difference_at}
use Rattle.ring.proofs.Sizes.{abs_sum, abs_neg, abs_product, fits_word}
use Rattle.scheme.specs.Hashes.{hash_bit, hash_pair}
use Rattle.scheme.specs.Keys.{all_within}
use Rattle.scheme.specs.Pairs.{pair, pair_from, twice, less_twice, is_zero, is_positive, leader}
use Rattle.scheme.specs.Verdicts.{signature_limit, point_of}
use Rattle.key.proofs.Ranges.{bounded_from, bounded_all}
use Rattle.verify.specs.Images.{half_point, point_limit}

bit_size : (hash : List ℕ) (i : ℕ) → nat_abs (hash_bit hash i) ≤ 1
unfolding hash_bit
bit_size hash i = let below : get_or hash (i / 8) 0 / 2 ^ (i % 8) % 2 < 2 = mod-lt _ (lit< tt) in omega arith

module _ (start : ℕ) (hash : List ℕ) (s : List ℤ) where
  bits_long : length (map (hash_bit hash) (range_with_len start (length s))) ≡ length s
  bits_long = length-map-range_with_len (hash_bit hash) start (length s)

  pub length_half : length (half_point start hash s) ≡ length s
  unfolding half_point
  length_half =
      length_difference (map (hash_bit hash) (range_with_len start (length s))) (map twice s) (bits_long ∙ sym (length-map s twice)) ∙ bits_long

  pub half_at : (i : ℕ) → i < length s → get_or (half_point start hash s) i (pos 0) ≡ hash_bit hash (start + i) -ℤ pos 2 *ℤ get_or s i (pos 0)
  unfolding half_point
  half_at i h =
      let doubled = length-map s twice in
      difference_at (map (hash_bit hash) (range_with_len start (length s))) (map twice s) i (omega (arith, bits_long)) (omega arith)
      ∙ rw (get_or-map-range_with_len (hash_bit hash) start (length s) i (start + i) (pos 0) h refl, get_or-map twice s i (pos 0) (pos 0) h)

  pub half_small : all_within signature_limit s ≡ true → all_within point_limit (half_point start hash s) ≡ true
  half_small small =
      bounded_all point_limit (half_point start hash s)
      (All-from_get_or (λ z. nat_abs z ≤ point_limit) (half_point start hash s) (pos 0)
      (λ i h.
      let below : i < length s = omega (arith, length_half) in
      let z = get_or s i (pos 0) in
      rw (half_at i below)
      (omega (arith, abs_sum (hash_bit hash (start + i)) (neg_ℤ (pos 2 *ℤ z)), abs_neg (pos 2 *ℤ z), abs_product (pos 2) z, bit_size hash (start + i), All-get_or (λ z. nat_abs z ≤ signature_limit) s i (pos 0) below (bounded_from signature_limit s small)))))

-- both halves make v
pub point_is : (n : ℕ) (hash : List ℕ) (s : List ℤ) → length s ≡ 2 * n → point_of n hash s ≡ pair (half_point 0 hash (take n s)) (half_point n hash (drop n s))
unfolding point_of less_twice hash_pair pair_from half_point
point_is n hash s long =
    let front : length (take n s) ≡ n = length-take-le n s (omega arith) in
    let back : length (drop n s) ≡ n = length-drop n s ∙ omega arith in
    rw (front, back)

-- the first coefficient that is not 0, as a search finds it
leader_found : (v : List ℤ) → leader v ≡ unwrap_or (find (λ z. not (is_zero z)) v) (pos 0)
unfolding leader
leader_found [] = refl
leader_found (x ∷ v) =
    elim (is_zero x) as (λ t. slice_index_or (x ∷ v) (cond t (1 + prefix_len is_zero v) 0) (pos 0) ≡ unwrap_or (cond (not t) (Some x) (find (λ z. not (is_zero z)) v)) (pos 0)) [
      | true ↦ let next : 1 + prefix_len is_zero v ≡ suc (prefix_len is_zero v) = omega arith in rw next (leader_found v)
      | false ↦ refl
    ]

pub leader_positive : {A : Type 0} (value : A → ℤ) (v : List ℤ) (o : Option A) (Positive : A → Type 0) (r : Bool) → option_map value o ≡ find (λ z. not (is_zero z)) v → ((x : A) → Positive x → r ≡ is_positive (value x))
    → MatchOption o (r ≡ false) Positive → r ≡ is_positive (leader v)
leader_positive value v None Positive r found read h = h ∙ ap is_positive (ap (λ o. unwrap_or o (pos 0)) found ∙ sym (leader_found v))
leader_positive value v (Some x) Positive r found read h = read x h ∙ ap is_positive (ap (λ o. unwrap_or o (pos 0)) found ∙ sym (leader_found v))

-- tests on a word
pub other_word : (z : ℤ) → SFits w64 z → eqb (of_z w64 z) 0 ≡ is_zero z
other_word (pos n) fits = refl
other_word (negsuc n) fits = ne_eqb _ 0 (λ e. omega (arith, fits.sfits)) ∙ sym (ne_eqb (suc n) 0 (λ e. omega arith))

pub positive_is : (z : ℤ) → lt_z (pos 0) z ≡ is_positive z
positive_is (pos n) = refl
positive_is (negsuc n) = refl

narrow_size : (z : ℤ) → SFits w32 z → nat_abs z ≤ 2 ^ 31
narrow_size (pos n) h = omega (arith, h.sfits)
narrow_size (negsuc n) h = omega (arith, h.sfits)

-- h_i − 2 s_i, worked out in words
module _ (hash : List ℕ) (place bit : ℕ) (b x z : ℤ) (bit_is : pos bit ≡ hash_bit hash place) (b-is : b ≡ pos bit) (z-fits : SFits w32 z) (x-is : x ≡ to_z w32 (of_z w32 z)) where
  b_size : nat_abs b ≤ 1
  b_size = omega (arith, ap nat_abs (b-is ∙ bit_is), bit_size hash place)

  b_back : to_z w64 (of_z w64 b) ≡ hash_bit hash place
  b_back = to_z-of_z w64 b (fits_word b (omega (arith, b_size))) ∙ b-is ∙ bit_is

  same : x ≡ z
  same = x-is ∙ to_z-of_z w32 z z-fits

  x_back : to_z w64 (of_z w64 x) ≡ z
  x_back = rw same (to_z-of_z w64 z (fits_word z (omega (arith, narrow_size z z-fits))))

  twice_size : nat_abs (pos 2 *ℤ z) ≤ 2 ^ 32
  twice_size = omega (arith, abs_product (pos 2) z, narrow_size z z-fits)

  twice_back : to_z w64 (of_z w64 (pos 2 *ℤ to_z w64 (of_z w64 x))) ≡ pos 2 *ℤ z
  twice_back = rw x_back (to_z-of_z w64 (pos 2 *ℤ z) (fits_word (pos 2 *ℤ z) (omega (arith, twice_size))))

  pub word_is : to_z w64 (of_z w64 (to_z w64 (of_z w64 b) -ℤ to_z w64 (of_z w64 (pos 2 *ℤ to_z w64 (of_z w64 x))))) ≡ hash_bit hash place -ℤ pos 2 *ℤ z
  word_is = rw (b_back, twice_back)
      (to_z-of_z w64 (hash_bit hash place -ℤ pos 2 *ℤ z) (fits_word (hash_bit hash place -ℤ pos 2 *ℤ z)
      (omega (arith, abs_sum (hash_bit hash place) (neg_ℤ (pos 2 *ℤ z)), abs_neg (pos 2 *ℤ z), twice_size, bit_size hash place))))
