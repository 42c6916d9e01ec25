-- Numbers of u and the sum N, worked out in words.
use Rattle.std.proofs.Common.{◌≡◌, ℕ, ◌+◌, ◌*◌, ◌^◌, ◌<◌, ◌≤◌, true, List, [], ◌∷◌, map, length, get_or, take, ℤ, pos, ◌+ℤ◌, ◌*ℤ◌, nat_abs, sym, refl, ap, ◌∙◌, mul-le-mul, add-one, arith, w64, SFits, to_z, of_z}
use Rattle.std.specs.Int.{int_wrap}
use Rattle.std.proofs.ByRecursion.{All-get_or}
use Rattle.std.proofs.lemmas.List.{take_all}
use Rattle.std.proofs.lemmas.Int.{to_z-of_z, int_wrap_fits}
use Rattle.std.proofs.lemmas.Bool.{leb-true}
use Rattle.ring.specs.Elements.{dot, coefficient, product}
use Rattle.ring.specs.Kinds.{rest, values, word_value}
use Rattle.ring.proofs.Exact.{values_alike, exact_coefficient}
use Rattle.ring.proofs.Places.{length_product, length_sum, product_at, sum_at}
use Rattle.ring.proofs.Sizes.{Bounded, abs_sum, abs_product, coefficient_size, fits_word}
use Rattle.ring.proofs.Sums.{dot_more}
use Rattle.ring.proofs.Words.{rest_wrapped}
use Rattle.scheme.specs.Keys.{within, all_within, form_limit}
use Rattle.scheme.specs.Verdicts.{image_limit}
use Rattle.key.proofs.Ranges.{bounded_from}
use Rattle.verify.proofs.Passes.{Passed, passed_more, passed_all}
use Rattle.verify.specs.Images.{row_image, shown, point_limit, PointWords}
use Rattle.verify.specs.Rows.{u_of}
use Rattle.verify.specs.declared.image.Row.{Row}

-- what words show is fixed by their residues
by_residues : (xs : List ℤ) → shown xs ≡ map (to_z w64) (map word_value xs)
unfolding shown int_wrap rest
by_residues [] = refl
by_residues (x ∷ xs) = ap {B = List ℤ} (λ l. int_wrap w64 x ∷ l) (by_residues xs)

shown_small : (m : ℕ) (xs : List ℤ) → m < 2 ^ 63 → Bounded m xs → shown xs ≡ xs
unfolding shown
shown_small m [] h small = refl
shown_small m (x ∷ xs) h small = rw (int_wrap_fits w64 x (fits_word x (omega (arith, small.0)))) (ap {B = List ℤ} (λ l. x ∷ l) (shown_small m xs h small.1))

pub shown_form : (a : List ℤ) → all_within form_limit a ≡ true → shown a ≡ a
shown_form a small = shown_small form_limit a (omega arith) (bounded_from form_limit a small)

-- words with the residues of an element of a form show that element
pub shown_is : (p a : List ℤ) → map word_value p ≡ map word_value a → all_within form_limit a ≡ true → shown p ≡ a
shown_is p a e small =
    by_residues p ∙ ap (map (to_z w64)) e ∙ sym (by_residues a) ∙ shown_form a small

same_residues : (p : List ℤ) → map word_value p ≡ map word_value (shown p)
unfolding shown
same_residues [] = refl
same_residues (x ∷ p) = rw (rest_wrapped x) (ap {B = List ℕ} (λ l. word_value x ∷ l) (same_residues p))

-- one product, exactly
product_exact : (n : ℕ) (a b : List ℤ) (k : ℕ) (x : ℤ) → length a ≡ n → all_within form_limit a ≡ true → PointWords n b → SFits w64 x
    → word_value x ≡ rest (2 ^ 64) (coefficient (values word_value a) (values word_value b) k) → to_z w64 (of_z w64 x) ≡ coefficient a b k
product_exact n a b k x long small point fits e =
    to_z-of_z w64 x fits ∙ exact_coefficient form_limit point_limit a b k x (bounded_from form_limit a small) (bounded_from point_limit b point.small) (omega (arith, point.few)) fits e

product_small : (n : ℕ) (a b : List ℤ) (k : ℕ) → length a ≡ n → all_within form_limit a ≡ true → PointWords n b → nat_abs (coefficient a b k) ≤ 2 ^ 55
product_small n a b k long small point =
    omega (arith, coefficient_size form_limit point_limit a b k (bounded_from form_limit a small) (bounded_from point_limit b point.small), point.few)

module _ (row : Row) where
  pub length_u : length (u_of row) ≡ length row.v.v0.now
  unfolding row_image
  length_u =
      let pa = length_product (shown row.p.now) row.v.v0.now in
      let qb = length_product row.q.now row.v.v1.now in
      length_sum (product (shown row.p.now) row.v.v0.now) (product row.q.now row.v.v1.now) (omega (arith, row.elements.p_long, row.elements.q_long)) ∙ pa ∙ row.elements.p_long

  image_at : (k : ℕ) → k < length row.v.v0.now → get_or (u_of row) k (pos 0) ≡ coefficient (shown row.p.now) row.v.v0.now k +ℤ coefficient row.q.now row.v.v1.now k
  unfolding row_image
  image_at k h =
      let pa = length_product (shown row.p.now) row.v.v0.now in
      let qb = length_product row.q.now row.v.v1.now in
      let lp = row.elements.p_long in
      let lq = row.elements.q_long in
      sum_at (product (shown row.p.now) row.v.v0.now) (product row.q.now row.v.v1.now) k (omega arith) (omega arith) ∙ rw (product_at (shown row.p.now) row.v.v0.now k (omega arith), product_at row.q.now row.v.v1.now k (omega arith))

-- number k of u, where both products are worked out in words
module _ (row : Row) (k : ℕ) (h : k < length row.v.v0.now) (x y : ℤ) (x_Fits : SFits w64 x) (y-fits : SFits w64 y)
    (x-is : word_value x ≡ rest (2 ^ 64) (coefficient (values word_value row.p.now) (values word_value row.v.v0.now) k))
    (y-is : word_value y ≡ rest (2 ^ 64) (coefficient (values word_value row.q.now) (values word_value row.v.v1.now) k)) where
  x_exact : to_z w64 (of_z w64 x) ≡ coefficient (shown row.p.now) row.v.v0.now k
  x_exact = product_exact (length row.v.v0.now) (shown row.p.now) row.v.v0.now k x row.elements.p_long row.elements.p_small row.v.first x_Fits
      (x-is ∙ ap (λ l. rest (2 ^ 64) (coefficient l (values word_value row.v.v0.now) k)) (values_alike word_value word_value row.p.now (shown row.p.now) (same_residues row.p.now)))

  y_exact : to_z w64 (of_z w64 y) ≡ coefficient row.q.now row.v.v1.now k
  y_exact = product_exact (length row.v.v0.now) row.q.now row.v.v1.now k y row.elements.q_long row.elements.q_small row.v.second y-fits y-is

  pub entry_fits : SFits w64 (to_z w64 (of_z w64 x) +ℤ to_z w64 (of_z w64 y))
  entry_fits = rw (x_exact, y_exact)
      (fits_word (coefficient (shown row.p.now) row.v.v0.now k +ℤ coefficient row.q.now row.v.v1.now k)
      (omega (
        arith,
        abs_sum (coefficient (shown row.p.now) row.v.v0.now k) (coefficient row.q.now row.v.v1.now k),
        product_small (length row.v.v0.now) (shown row.p.now) row.v.v0.now k row.elements.p_long row.elements.p_small row.v.first,
        product_small (length row.v.v0.now) row.q.now row.v.v1.now k row.elements.q_long row.elements.q_small row.v.second,
      )))

  pub entry_is : to_z w64 (of_z w64 (to_z w64 (of_z w64 x) +ℤ to_z w64 (of_z w64 y))) ≡ get_or (u_of row) k (pos 0)
  entry_is = to_z-of_z w64 _ entry_fits ∙ rw (x_exact, y_exact) (sym (image_at row k h))

-- one term of the sum of half_k · u_k, where x is the word of u_k and keeps the limit
module _ (row : Row) (half : List ℤ) (k : ℕ) (x : ℤ) (point : PointWords (length row.v.v0.now) half) (h : k < length half)
    (fits : SFits w64 x) (x-is : x ≡ get_or (u_of row) k (pos 0)) (test : true ≡ within image_limit (to_z w64 (of_z w64 x))) where
  half_size : nat_abs (get_or half k (pos 0)) ≤ point_limit
  half_size = All-get_or (λ z. nat_abs z ≤ point_limit) half k (pos 0) h (bounded_from point_limit half point.small)

  half_back : to_z w64 (of_z w64 (get_or half k (pos 0))) ≡ get_or half k (pos 0)
  half_back = to_z-of_z w64 (get_or half k (pos 0)) (fits_word (get_or half k (pos 0)) (omega (arith, half_size)))

  x_back : to_z w64 (of_z w64 x) ≡ get_or (u_of row) k (pos 0)
  x_back = to_z-of_z w64 x fits ∙ x-is

  kept : within image_limit (get_or (u_of row) k (pos 0)) ≡ true
  kept = sym (test ∙ ap (within image_limit) x_back)

  below : k < length (u_of row)
  below = omega (arith, length_u row, point.long, h)

  pub kept_more : Passed image_limit (u_of row) k → Passed image_limit (u_of row) (k + 1)
  kept_more = passed_more image_limit (u_of row) k below kept

  term_size : nat_abs (get_or half k (pos 0) *ℤ get_or (u_of row) k (pos 0)) ≤ point_limit * image_limit
  term_size = omega (arith, abs_product (get_or half k (pos 0)) (get_or (u_of row) k (pos 0)), mul-le-mul half_size (leb-true (nat_abs (get_or (u_of row) k (pos 0))) image_limit kept))

  term_is : to_z w64 (of_z w64 (get_or half k (pos 0))) *ℤ to_z w64 (of_z w64 x) ≡ get_or half k (pos 0) *ℤ get_or (u_of row) k (pos 0)
  term_is = rw (half_back, x_back)

  pub term_fits : SFits w64 (to_z w64 (of_z w64 (get_or half k (pos 0))) *ℤ to_z w64 (of_z w64 x))
  term_fits = rw term_is (fits_word (get_or half k (pos 0) *ℤ get_or (u_of row) k (pos 0)) (omega (arith, term_size)))

  term_back : to_z w64 (of_z w64 (to_z w64 (of_z w64 (get_or half k (pos 0))) *ℤ to_z w64 (of_z w64 x))) ≡ get_or half k (pos 0) *ℤ get_or (u_of row) k (pos 0)
  term_back = to_z-of_z w64 _ term_fits ∙ term_is

  -- added to the terms before it
  module _ (s : ℤ) (s-is : s ≡ dot (take k half) (take k (u_of row))) (size : nat_abs s ≤ (point_limit * image_limit) * k) where
    sum_size : nat_abs (s +ℤ get_or half k (pos 0) *ℤ get_or (u_of row) k (pos 0)) ≤ (point_limit * image_limit) * (k + 1)
    sum_size = omega (arith, abs_sum s (get_or half k (pos 0) *ℤ get_or (u_of row) k (pos 0)), term_size, size)

    pub sum_fits : SFits w64 (s +ℤ to_z w64 (of_z w64 (to_z w64 (of_z w64 (get_or half k (pos 0))) *ℤ to_z w64 (of_z w64 x))))
    sum_fits = rw term_back (fits_word (s +ℤ get_or half k (pos 0) *ℤ get_or (u_of row) k (pos 0)) (omega (arith, sum_size, point.few)))

    sum_back : to_z w64 (of_z w64 (s +ℤ to_z w64 (of_z w64 (to_z w64 (of_z w64 (get_or half k (pos 0))) *ℤ to_z w64 (of_z w64 x))))) ≡ s +ℤ get_or half k (pos 0) *ℤ get_or (u_of row) k (pos 0)
    sum_back = to_z-of_z w64 _ sum_fits ∙ rw term_back

    pub sum_step : to_z w64 (of_z w64 (s +ℤ to_z w64 (of_z w64 (to_z w64 (of_z w64 (get_or half k (pos 0))) *ℤ to_z w64 (of_z w64 x))))) ≡ dot (take (k + 1) half) (take (k + 1) (u_of row))
    sum_step = sum_back ∙ rw (add-one k, s-is) (sym (dot_more half (u_of row) k h below))

    pub sum_grows : nat_abs (to_z w64 (of_z w64 (s +ℤ to_z w64 (of_z w64 (to_z w64 (of_z w64 (get_or half k (pos 0))) *ℤ to_z w64 (of_z w64 x)))))) ≤ (point_limit * image_limit) * (k + 1)
    sum_grows = rw sum_back sum_size

-- the sum after the last term
module _ (row : Row) (half : List ℤ) (k : ℕ) (point : PointWords (length row.v.v0.now) half) (h : length half ≤ k) where
  over : length (u_of row) ≤ k
  over = omega (arith, length_u row, point.long, h)

  pub kept_whole : Passed image_limit (u_of row) k → all_within image_limit (u_of row) ≡ true
  kept_whole = passed_all image_limit (u_of row) k over

  pub sum_whole : dot (take k half) (take k (u_of row)) ≡ dot half (u_of row)
  sum_whole = rw (take_all k half h, take_all k (u_of row) over)
