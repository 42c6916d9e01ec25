-- The tests of verification, put together.
use Rattle.std.proofs.Common.{◌≡◌, ℕ, ◌≤◌, ◌*◌, true, false, ◌&&◌, eqb, List, length, take, drop, ℤ, pos, Some, None, Ok, Err, Option, Result, MatchOption, ok_or, subst, sym, ap, ◌∙◌, arith, w64, SFits, to_z, of_z}
use Rattle.std.proofs.ByRecursion.{All-take, All-drop}
use Rattle.std.proofs.lemmas.List.{length-take-le, length-drop}
use Rattle.std.proofs.lemmas.Int.{to_z-of_z}
use Rattle.std.proofs.lemmas.Bool.{and_parts, eqb-true}
use Rattle.ring.specs.Classes.{size_of, bound_of, hash_length_of}
use Rattle.ring.specs.Faults.{Test, first_failing, Answers}
use Rattle.ring.specs.declared.class.Class.{Class}
use Rattle.ring.specs.declared.fault.Fault.{Fault}
use Rattle.scheme.specs.Keys.{Gram, all_within}
use Rattle.scheme.specs.Matrices.{Pair}
use Rattle.scheme.specs.Pairs.{pair, numbers_of, is_positive, up_to, leader}
use Rattle.scheme.specs.Refusals.{check_fault}
use Rattle.scheme.specs.Verdicts.{signature_limit, image_limit, point_of, image_of, length_under, verdict_tests, verify_sizes, verify_tests}
use Rattle.scheme.specs.declared.fault.CheckFault.TheVariants.{Length, Range, Bound, Sign}
use Rattle.key.proofs.Ranges.{bounded_from, bounded_all}
use Rattle.key.proofs.Sections.{size_room}
use Rattle.verify.specs.Images.{half_point, PointWords}
use Rattle.verify.proofs.Points.{length_half, half_small, point_is}

half_words : (n start : ℕ) (hash : List ℕ) (t : List ℤ) → n ≤ 1024 → length t ≡ n → all_within signature_limit t ≡ true → PointWords n (half_point start hash t)
half_words n start hash t few size small = record { few = few; long = length_half start hash t ∙ size; small = half_small start hash t small }

-- both halves of v, as they are written
pub record Halves (n : ℕ) (hash : List ℕ) (s v0 v1 : List ℤ) : Type 0 where
  pub point : point_of n hash s ≡ pair v0 v1
  pub first : all_within signature_limit s ≡ true → PointWords (length v0) v0
  pub second : all_within signature_limit s ≡ true → PointWords (length v0) v1

pub halves : (class : Class) (m : ℕ) (hash : List ℕ) (s s0 s1 v0 v1 : List ℤ) → length s ≡ 2 * size_of class → m ≡ size_of class → s0 ≡ take m s → s1 ≡ drop m s → v0 ≡ half_point 0 hash s0 → v1 ≡ half_point m hash s1 → Halves (size_of class) hash s v0 v1
halves class m hash s s0 s1 v0 v1 long m-is s0-is s1-is v0-is v1-is =
    let n = size_of class in
    let few = (size_room class).1 in
    let front : length (take n s) ≡ n = length-take-le n s (omega arith) in
    let back : length (drop n s) ≡ n = length-drop n s ∙ omega arith in
    let first : v0 ≡ half_point 0 hash (take n s) = v0-is ∙ ap (half_point 0 hash) s0-is ∙ ap (λ k. half_point 0 hash (take k s)) m-is in
    let second : v1 ≡ half_point n hash (drop n s) = v1-is ∙ ap (half_point m hash) s1-is ∙ ap (λ k. half_point k hash (drop k s)) m-is in
    let size : length v0 ≡ n = ap length first ∙ length_half 0 hash (take n s) ∙ front in
    record {
      point = rw (first, second) (point_is n hash s long);
      first = λ small. rw (size, first) (half_words n 0 hash (take n s) few front (bounded_all signature_limit (take n s) (All-take _ n s (bounded_from signature_limit s small))));
      second = λ small. rw (size, second) (half_words n n hash (drop n s) few back (bounded_all signature_limit (drop n s) (All-drop _ n s (bounded_from signature_limit s small))));
    }

-- the outcomes of an `ok_or`
pub none_of : {A E : Type 0} (o : Option A) (d e : E) (P : Type 0) (Q : A → Type 0) → Err e ≡ ok_or o d → MatchOption o P Q → (e ≡ d) × P
none_of None d e P Q is h = (cc, h)
none_of (Some y) d e P Q is h = absurd (cc)

pub some_of : {A E : Type 0} (o : Option A) (d : E) (x : A) (P : Type 0) (Q : A → Type 0) → Ok x ≡ ok_or o d → MatchOption o P Q → Q x
some_of None d x P Q is h = absurd (cc)
some_of (Some y) d x P Q is h = let same : y ≡ x = cc in subst Q same h

-- the tests on u and N, and on v1
module _ (class : Class) (q : Gram) (v : Pair) where
  pub beyond_limit : all_within image_limit (numbers_of (image_of q v)) ≡ false → first_failing (verdict_tests class q v) ≡ Some (check_fault Bound)
  unfolding verdict_tests
  beyond_limit h = rw h

  -- with N as a word
  module _ (kept : all_within image_limit (numbers_of (image_of q v)) ≡ true) (sum : ℤ) (fits : SFits w64 sum) (sum_is_lem : sum ≡ length_under q v) where
    length_read : to_z w64 (of_z w64 sum) ≡ length_under q v
    length_read = to_z-of_z w64 sum fits ∙ sum_is_lem

    pub beyond_bound : up_to (bound_of class) (to_z w64 (of_z w64 sum)) ≡ false → first_failing (verdict_tests class q v) ≡ Some (check_fault Bound)
    unfolding verdict_tests
    beyond_bound h = let above = ap (up_to (bound_of class)) (sym length_read) ∙ h in rw (kept, above)

    pub wrong_sign : up_to (bound_of class) (to_z w64 (of_z w64 sum)) ≡ true → is_positive (leader v.second) ≡ false → first_failing (verdict_tests class q v) ≡ Some (check_fault Sign)
    unfolding verdict_tests
    wrong_sign h sign = let below = ap (up_to (bound_of class)) (sym length_read) ∙ h in rw (kept, below, sign)

    pub passes : up_to (bound_of class) (to_z w64 (of_z w64 sum)) ≡ true → is_positive (leader v.second) ≡ true → first_failing (verdict_tests class q v) ≡ None
    unfolding verdict_tests
    passes h sign = let below = ap (up_to (bound_of class)) (sym length_read) ∙ h in rw (kept, below, sign)

    pub length_told : (N : ℕ) → to_z w64 (of_z w64 sum) ≡ pos N → length_under q v ≡ pos N
    length_told N e = sym length_read ∙ e

-- the tests before those
module _ (class : Class) (q : Gram) (hash : List ℕ) (s : List ℤ) (words : ℕ) where
  pub wrong_sizes : (verify_sizes class hash s words).passes ≡ false → first_failing (verify_tests class q hash s words) ≡ Some (check_fault Length)
  unfolding verify_tests
  wrong_sizes h = rw h

  pub out_of_range : (verify_sizes class hash s words).passes ≡ true → all_within signature_limit s ≡ false → first_failing (verify_tests class q hash s words) ≡ Some (check_fault Range)
  unfolding verify_tests
  out_of_range h k = rw (h, k)

  pub to_verdict : (verify_sizes class hash s words).passes ≡ true → all_within signature_limit s ≡ true → first_failing (verify_tests class q hash s words) ≡ first_failing (verdict_tests class q (point_of (size_of class) hash s))
  unfolding verify_tests
  to_verdict h k = rw (h, k)

-- the test on the lengths
module _ (class : Class) (hash : List ℕ) (s : List ℤ) (words : ℕ) where
  pub sizes_are : (verify_sizes class hash s words).passes ≡ true → (length s ≡ 2 * size_of class) × (words ≡ 4 * size_of class)
  sizes_are h =
      let p = and_parts (eqb (length hash) (hash_length_of class) && eqb (length s) (2 * size_of class)) (eqb words (4 * size_of class)) h in
      let r = and_parts (eqb (length hash) (hash_length_of class)) (eqb (length s) (2 * size_of class)) p.0 in
      (eqb-true (length s) (2 * size_of class) r.1, eqb-true words (4 * size_of class) p.1)

-- an answer to tests with the same outcome
pub answers_same : {T E : Type 0} (meaning : E → Fault) (ts us : List Test) (W : T → Type 0) (r : Result T E) → first_failing us ≡ first_failing ts → Answers meaning ts W r → Answers meaning us W r
answers_same meaning ts us W (Ok x) e h = (e ∙ h.0, h.1)
answers_same meaning ts us W (Err f) e h = e ∙ h
