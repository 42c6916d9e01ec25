-- Coefficients of a·x − b·y, in words.
use Rattle.std.proofs.Common.{◌≡◌, ℕ, ◌^◌, ◌<◌, ◌≤◌, ◌⊎◌, List, length, get_or, ℤ, pos, ◌-ℤ◌, neg_ℤ, nat_abs, sym, ap, ◌∙◌, inl, inr, arith, w64, SFits, to_z, of_z}
use Rattle.std.proofs.lemmas.Int.{to_z-of_z}
use Rattle.std.proofs.lemmas.List.{get_or_past}
use Rattle.std.proofs.lemmas.Bool.{cases_lt}
use Rattle.ring.specs.Elements.{coefficient, product}
use Rattle.ring.specs.Kinds.{rest, values, word_value}
use Rattle.ring.proofs.Exact.{exact_coefficient}
use Rattle.ring.proofs.Places.{product_at, length_product, difference_at, length_difference}
use Rattle.ring.proofs.Sizes.{Bounded, abs_sum, abs_neg, coefficient_size, fits_word}
use Rattle.scheme.specs.Keys.{key_limit}
use Rattle.key.proofs.Ranges.{bounded_from}
use Rattle.signing.specs.Rows.{apart, sample_limit, SmallRow}

-- one product: at most 1,024 · 127 · 142 in size, and words show it
product_small : (a x : List ℤ) (k : ℕ) → Bounded key_limit a → Bounded sample_limit x → length a ≤ 1024 → nat_abs (coefficient a x k) ≤ 18466816
product_small a x k ha hx few = omega (arith, coefficient_size key_limit sample_limit a x k ha hx)

product_exact : (a x : List ℤ) (k : ℕ) (r : ℤ) → Bounded key_limit a → Bounded sample_limit x → length a ≤ 1024 → SFits w64 r
    → word_value r ≡ rest (2 ^ 64) (coefficient (values word_value a) (values word_value x) k) → to_z w64 (of_z w64 r) ≡ coefficient a x k
product_exact a x k r ha hx few fits e = to_z-of_z w64 r fits ∙ exact_coefficient key_limit sample_limit a x k r ha hx (omega arith) fits e

pub length_apart : (a b x y : List ℤ) → length b ≡ length a → length (apart a b x y) ≡ length a
unfolding apart
length_apart a b x y same = length_difference (product a x) (product b y) (length_product a x ∙ sym same ∙ sym (length_product b y)) ∙ length_product a x

module _ (a b x y : List ℤ) (row : SmallRow a b x y) where
  few_b : length b ≤ 1024
  few_b = omega (arith, row.few, row.same)

  apart_at : (k : ℕ) → k < length a → get_or (apart a b x y) k (pos 0) ≡ coefficient a x k -ℤ coefficient b y k
  unfolding apart
  apart_at k h =
      let la = length_product a x in
      let lb = length_product b y in
      let same = row.same in
      difference_at (product a x) (product b y) k (omega arith) (omega arith) ∙ rw (product_at a x k h, product_at b y k (omega arith))

  minus_small : (k : ℕ) → nat_abs (coefficient a x k -ℤ coefficient b y k) ≤ 36933632
  minus_small k =
      omega (
        arith,
        abs_sum (coefficient a x k) (neg_ℤ (coefficient b y k)),
        abs_neg (coefficient b y k),
        product_small a x k (bounded_from key_limit a row.a_small) (bounded_from sample_limit x row.x_small) row.few,
        product_small b y k (bounded_from key_limit b row.b_small) (bounded_from sample_limit y row.y_small) few_b,
      )

  pub apart_fits : (k : ℕ) → SFits w64 (get_or (apart a b x y) k (pos 0))
  apart_fits k = fits_word (get_or (apart a b x y) k (pos 0)) (go (cases_lt k (length a)))
    where
      go : (k < length a) ⊎ (length a ≤ k) → nat_abs (get_or (apart a b x y) k (pos 0)) < 2 ^ 63
      go (inl h) = omega (arith, minus_small k, ap nat_abs (apart_at k h))
      go (inr h) = omega (arith, ap nat_abs (get_or_past (apart a b x y) k (pos 0) (omega (arith, length_apart a b x y row.same))))

  -- the difference of two such words
  module _ (k : ℕ) (r s : ℤ) (r-fits : SFits w64 r) (s-fits : SFits w64 s)
      (r-is : word_value r ≡ rest (2 ^ 64) (coefficient (values word_value a) (values word_value x) k))
      (s-is : word_value s ≡ rest (2 ^ 64) (coefficient (values word_value b) (values word_value y) k)) where
    r_exact : to_z w64 (of_z w64 r) ≡ coefficient a x k
    r_exact = product_exact a x k r (bounded_from key_limit a row.a_small) (bounded_from sample_limit x row.x_small) row.few r-fits r-is

    s_exact : to_z w64 (of_z w64 s) ≡ coefficient b y k
    s_exact = product_exact b y k s (bounded_from key_limit b row.b_small) (bounded_from sample_limit y row.y_small) few_b s-fits s-is

    pub minus_fits : SFits w64 (to_z w64 (of_z w64 r) -ℤ to_z w64 (of_z w64 s))
    minus_fits = rw (r_exact, s_exact) (fits_word (coefficient a x k -ℤ coefficient b y k) (omega (arith, minus_small k)))

    minus_is : to_z w64 (of_z w64 (to_z w64 (of_z w64 r) -ℤ to_z w64 (of_z w64 s))) ≡ coefficient a x k -ℤ coefficient b y k
    minus_is = to_z-of_z w64 (to_z w64 (of_z w64 r) -ℤ to_z w64 (of_z w64 s)) minus_fits ∙ rw (r_exact, s_exact)

    pub word_is : k < length a → to_z w64 (of_z w64 (to_z w64 (of_z w64 r) -ℤ to_z w64 (of_z w64 s))) ≡ get_or (apart a b x y) k (pos 0)
    word_is h = minus_is ∙ sym (apart_at k h)

    pub word_small : nat_abs (to_z w64 (of_z w64 (to_z w64 (of_z w64 r) -ℤ to_z w64 (of_z w64 s)))) ≤ 2 ^ 26
    word_small = omega (arith, minus_small k, ap nat_abs minus_is)
