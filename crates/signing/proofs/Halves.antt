-- Half of a signature, place by place.
use Rattle.std.proofs.Common.{◌≡◌, ℕ, ◌+◌, ◌<◌, Bool, true, false, cond, List, map, length, get_or, ℤ, pos, ◌-ℤ◌, neg_ℤ, sym, refl, ap, ◌∙◌, arith}
use Rattle.std.specs.List.{range_with_len}
use Rattle.std.proofs.lemmas.List.FromFn.{get_or-map-range_with_len, length-map-range_with_len}
use Rattle.std.proofs.lemmas.List.{get_or-map, length-map}
use Rattle.ring.specs.Elements.{difference, negative}
use Rattle.ring.proofs.Places.{difference_at, length_difference, length_negative, negative_at}
use Rattle.scheme.specs.Hashes.{hash_bit}
use Rattle.scheme.specs.Pairs.{half}
use Rattle.signing.specs.Rows.{half_from}

length_signed : (changed : Bool) (v : List ℤ) → length (cond changed (negative v) v) ≡ length v
length_signed true v = length_negative v
length_signed false v = refl

signed_at : (changed : Bool) (v : List ℤ) (k : ℕ) → k < length v → get_or (cond changed (negative v) v) k (pos 0) ≡ cond changed (neg_ℤ (get_or v k (pos 0))) (get_or v k (pos 0))
signed_at true v k h = negative_at v k h
signed_at false v k h = refl

module _ (hash : List ℕ) (from : ℕ) (changed : Bool) (v : List ℤ) where
  bits_long : length (map (hash_bit hash) (range_with_len from (length v))) ≡ length (cond changed (negative v) v)
  bits_long = length-map-range_with_len (hash_bit hash) from (length v) ∙ sym (length_signed changed v)

  whole_long : length (difference (map (hash_bit hash) (range_with_len from (length v))) (cond changed (negative v) v)) ≡ length v
  whole_long = length_difference (map (hash_bit hash) (range_with_len from (length v))) (cond changed (negative v) v) bits_long ∙ length-map-range_with_len (hash_bit hash) from (length v)

  pub length_half : length (half_from hash from changed v) ≡ length v
  unfolding half_from
  length_half = length-map (difference (map (hash_bit hash) (range_with_len from (length v))) (cond changed (negative v) v)) half ∙ whole_long

  pub half_at : (k : ℕ) (z : ℤ) → k < length v → z ≡ get_or v k (pos 0) → half (hash_bit hash (from + k) -ℤ cond changed (neg_ℤ z) z) ≡ get_or (half_from hash from changed v) k (pos 0)
  unfolding half_from
  half_at k z h e =
      let H = map (hash_bit hash) (range_with_len from (length v)) in
      let W = cond changed (negative v) v in
      let lh : length H ≡ length v = length-map-range_with_len (hash_bit hash) from (length v) in
      let lw : length W ≡ length v = length_signed changed v in
      let entry : get_or (difference H W) k (pos 0) ≡ hash_bit hash (from + k) -ℤ cond changed (neg_ℤ z) z =
      difference_at H W k (omega arith) (omega arith)
      ∙ ap (λ t. t -ℤ get_or W k (pos 0)) (get_or-map-range_with_len (hash_bit hash) from (length v) k (from + k) (pos 0) h refl)
      ∙ ap (λ t. hash_bit hash (from + k) -ℤ t) (signed_at changed v k h ∙ ap (λ t. cond changed (neg_ℤ t) t) (sym e)) in
      sym (get_or-map half (difference H W) k (pos 0) (pos 0) (omega (arith, whole_long)) ∙ ap half entry)
