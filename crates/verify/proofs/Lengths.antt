-- N from the two rows of a form.
use Rattle.std.proofs.Common.{◌≡◌, ℕ, ◌^◌, ◌≤◌, true, false, ◌&&◌, List, [], ◌∷◌, ◌++◌, map, length, ℤ, ◌+ℤ◌, nat_abs, Result, sym, refl, ap, ◌∙◌, arith, w64, SFits, to_z, of_z}
use Rattle.std.specs.Int.{int_wrap}
use Rattle.std.proofs.lemmas.List.{length-map}
use Rattle.std.proofs.lemmas.Int.{to_z-of_z}
use Rattle.std.proofs.Math.Bool.{and_assoc}
use Rattle.std.proofs.lemmas.Bool.{and_from, and_left, and_right}
use Rattle.ring.specs.Calls.{of_class, length_test2}
use Rattle.ring.specs.Classes.{size_of}
use Rattle.ring.specs.Elements.{dot, adjoint}
use Rattle.ring.specs.Faults.{Answers, ring_fault}
use Rattle.ring.specs.Kinds.{rest, values, word_value}
use Rattle.ring.specs.Wide.{over}
use Rattle.ring.specs.declared.class.Class.{Class}
use Rattle.ring.specs.declared.class.Class.TheVariants.{One, Two, Three, Four}
use Rattle.ring.specs.declared.fault.RingFault.{RingFault}
use Rattle.ring.proofs.Fronts.{widened}
use Rattle.ring.proofs.Sizes.{abs_sum, dot_size, bounded_adjoint, fits_word}
use Rattle.scheme.specs.Keys.{Gram, within, all_within, form_limit}
use Rattle.scheme.specs.Matrices.{applied, form_matrix, pairing}
use Rattle.scheme.specs.Pairs.{pair, numbers_of}
use Rattle.scheme.specs.Verdicts.{image_limit, image_of, length_under}
use Rattle.key.proofs.Ranges.{bounded_from, bounded_all}
use Rattle.key.proofs.Rows.{star_is}
use Rattle.verify.specs.Images.{row_image, shown, point_limit, PointWords, RowWords}
use Rattle.verify.proofs.Images.{shown_is}

size_class : (class : Class) → of_class (size_of class) ≡ true
size_class One = refl
size_class Two = refl
size_class Three = refl
size_class Four = refl

-- the numbers of an element, written as words
pub words_are : {n : ℕ} (numbers area words a : List ℤ) → numbers ≡ a → length numbers ≡ n → length area ≡ n → words ≡ over (map (λ x. x) numbers) area → words ≡ a
words_are numbers area words a is long room e = e ∙ widened numbers area (room ∙ sym long) ∙ is

pub small_adjoint : (a : List ℤ) → all_within form_limit a ≡ true → all_within form_limit (adjoint a) ≡ true
small_adjoint a small = bounded_all form_limit (adjoint a) (bounded_adjoint form_limit a (bounded_from form_limit a small))

-- the adjoint of an element, worked out in words
pub star_shown : {T : Type 0} {q a : List ℤ} (class : Class) (p star : List ℤ) (result : Result T RingFault) → q ≡ a → length q ≡ size_of class → length p ≡ size_of class → all_within form_limit a ≡ true
    → Answers ring_fault (length_test2 (length q) (length p) ∷ []) (λ _. map word_value star ≡ map (rest (2 ^ 64)) (adjoint (values word_value q))) result → shown star ≡ adjoint a
star_shown {q = q} {a = a} class p star result is q_long p_long small answer =
    let long : length a ≡ size_of class = ap length (sym is) ∙ q_long in
    shown_is star (adjoint a) (star_is a q p star result is (ap of_class long ∙ size_class class) (p_long ∙ sym long) answer) (small_adjoint a small)

-- a row of the form, which p and q show
module _ {a b q : List ℤ} (p : List ℤ) (p_is : shown p ≡ a) (q_is : q ≡ b) where
  pub row_words : (n : ℕ) → length p ≡ n → length q ≡ n → all_within form_limit a ≡ true → all_within form_limit b ≡ true → RowWords n (shown p) q
  unfolding shown
  row_words n p_long q_long p_small q_small = record {
    p_long = length-map p (int_wrap w64) ∙ p_long;
    q_long = q_long;
    p_small = ap (all_within form_limit) p_is ∙ p_small;
    q_small = ap (all_within form_limit) q_is ∙ q_small;
  }

  pub row_is : (v0 v1 : List ℤ) → row_image (shown p) q v0 v1 ≡ row_image a b v0 v1
  row_is v0 v1 = rw (p_is, q_is)

within_parts : (m : ℕ) (xs ys : List ℤ) → all_within m (xs ++ ys) ≡ (all_within m xs && all_within m ys)
within_parts m [] ys = refl
within_parts m (x ∷ xs) ys = rw (within_parts m xs ys) (sym (and_assoc (within m x) (all_within m xs) (all_within m ys)))

-- u and N by rows
module _ (q : Gram) (v0 v1 : List ℤ) {u0 u1 : List ℤ} (u0-is : u0 ≡ row_image q.q00 q.q01 v0 v1) (u1-is : u1 ≡ row_image (adjoint q.q01) q.q11 v0 v1) where
  image_is : numbers_of (image_of q (pair v0 v1)) ≡ u0 ++ u1
  unfolding numbers_of image_of applied form_matrix row_image
  image_is = rw (u0-is, u1-is)

  kept_is : all_within image_limit (numbers_of (image_of q (pair v0 v1))) ≡ (all_within image_limit u0 && all_within image_limit u1)
  kept_is = ap (all_within image_limit) image_is ∙ within_parts image_limit u0 u1

  pub first_large : all_within image_limit u0 ≡ false → all_within image_limit (numbers_of (image_of q (pair v0 v1))) ≡ false
  first_large h = kept_is ∙ and_left (all_within image_limit u0) (all_within image_limit u1) h

  pub second_large : all_within image_limit u1 ≡ false → all_within image_limit (numbers_of (image_of q (pair v0 v1))) ≡ false
  second_large h = kept_is ∙ and_right (all_within image_limit u0) (all_within image_limit u1) h

  pub both_kept : all_within image_limit u0 ≡ true → all_within image_limit u1 ≡ true → all_within image_limit (numbers_of (image_of q (pair v0 v1))) ≡ true
  both_kept h k = kept_is ∙ and_from (all_within image_limit u0) (all_within image_limit u1) h k

  length_is : dot v0 u0 +ℤ dot v1 u1 ≡ length_under q (pair v0 v1)
  unfolding length_under pairing image_of applied form_matrix row_image
  length_is = rw (u0-is, u1-is)

  -- the two sums as words
  module _ {n : ℕ} {x y : ℤ} (first : PointWords n v0) (second : PointWords n v1) (x-kept : all_within image_limit u0 ≡ true) (y_kept : all_within image_limit u1 ≡ true)
      (x-is : x ≡ dot v0 u0) (y-is : y ≡ dot v1 u1) where
    sum_size : (z : ℤ) (v u : List ℤ) → PointWords n v → all_within image_limit u ≡ true → z ≡ dot v u → nat_abs z ≤ 2 ^ 50
    sum_size z v u point kept is =
        omega (arith, ap nat_abs is, dot_size point_limit image_limit v u (bounded_from point_limit v point.small) (bounded_from image_limit u kept), point.long, point.few)

    x_back : to_z w64 (of_z w64 x) ≡ x
    x_back = to_z-of_z w64 x (fits_word x (omega (arith, sum_size x v0 u0 first x-kept x-is)))

    y_back : to_z w64 (of_z w64 y) ≡ y
    y_back = to_z-of_z w64 y (fits_word y (omega (arith, sum_size y v1 u1 second y_kept y-is)))

    pub total_fits : SFits w64 (to_z w64 (of_z w64 x) +ℤ to_z w64 (of_z w64 y))
    total_fits = rw (x_back, y_back) (fits_word (x +ℤ y) (omega (arith, abs_sum x y, sum_size x v0 u0 first x-kept x-is, sum_size y v1 u1 second y_kept y-is)))

    pub total_is : to_z w64 (of_z w64 (to_z w64 (of_z w64 x) +ℤ to_z w64 (of_z w64 y))) ≡ length_under q (pair v0 v1)
    total_is = to_z-of_z w64 _ total_fits ∙ rw (x_back, y_back, x-is, y-is) length_is
