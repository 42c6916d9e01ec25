-- The tests of verification, one by one.
use Rattle.std.proofs.Common.{◌≡◌, ℕ, ◌*◌, true, ◌&&◌, eqb, List, [], ◌∷◌, length, ℤ, None, refl}
use Rattle.std.proofs.lemmas.Bool.{and_parts, eq-eqb, eqb-true}
use Rattle.ring.specs.Classes.{size_of, bound_of, hash_length_of}
use Rattle.ring.specs.Faults.{test, first_failing}
use Rattle.ring.specs.declared.class.Class.{Class}
use Rattle.ring.proofs.Firsts.{none_parts}
use Rattle.scheme.specs.Keys.{Gram, all_within}
use Rattle.scheme.specs.Matrices.{Pair}
use Rattle.scheme.specs.Pairs.{numbers_of, is_positive, up_to, leader}
use Rattle.scheme.specs.Refusals.{check_fault}
use Rattle.scheme.specs.Verdicts.{signature_limit, image_limit, point_of, image_of, length_under, verify_sizes, verdict_tests, verify_tests}
use Rattle.scheme.specs.declared.fault.CheckFault.TheVariants.{Range, Bound, Sign}

pub record Verified (class : Class) (q : Gram) (hash : List ℕ) (s : List ℤ) : Type 0 where
  pub hash_long : length hash ≡ hash_length_of class
  pub long : length s ≡ 2 * size_of class
  pub small : all_within signature_limit s ≡ true
  pub image : all_within image_limit (numbers_of (image_of q (point_of (size_of class) hash s))) ≡ true
  pub bound : up_to (bound_of class) (length_under q (point_of (size_of class) hash s)) ≡ true
  pub positive : is_positive (leader (point_of (size_of class) hash s).second) ≡ true

module _ (class : Class) (q : Gram) (hash : List ℕ) (s : List ℤ) where
  pub verified_passes : Verified class q hash s → first_failing (verify_tests class q hash s (4 * size_of class)) ≡ None
  unfolding verify_tests verdict_tests
  verified_passes v =
      let one = eq-eqb (length hash) (hash_length_of class) v.hash_long in
      let two = eq-eqb (length s) (2 * size_of class) v.long in
      let three = eq-eqb (4 * size_of class) (4 * size_of class) refl in
      rw (one, two, three, v.small, v.image, v.bound, v.positive)

  pub verified_from : first_failing (verify_tests class q hash s (4 * size_of class)) ≡ None → Verified class q hash s
  unfolding verify_tests verdict_tests
  verified_from none =
      let v : Pair = point_of (size_of class) hash s in
      let sign = test (is_positive (leader v.second)) (check_fault Sign) in
      let bound = test (all_within image_limit (numbers_of (image_of q v)) && up_to (bound_of class) (length_under q v)) (check_fault Bound) in
      let range = test (all_within signature_limit s) (check_fault Range) in
      let sizes = none_parts (verify_sizes class hash s (4 * size_of class)) (range ∷ bound ∷ sign ∷ []) none in
      let ranged = none_parts range (bound ∷ sign ∷ []) sizes.1 in
      let bounded = none_parts bound (sign ∷ []) ranged.1 in
      let signed = none_parts sign [] bounded.1 in
      let lengths = and_parts (eqb (length hash) (hash_length_of class) && eqb (length s) (2 * size_of class)) (eqb (4 * size_of class) (4 * size_of class)) sizes.0 in
      let two = and_parts (eqb (length hash) (hash_length_of class)) (eqb (length s) (2 * size_of class)) lengths.0 in
      let small = and_parts (all_within image_limit (numbers_of (image_of q v))) (up_to (bound_of class) (length_under q v)) bounded.0 in
      record {
        hash_long = eqb-true (length hash) (hash_length_of class) two.0;
        long = eqb-true (length s) (2 * size_of class) two.1;
        small = ranged.0;
        image = small.0;
        bound = small.1;
        positive = signed.0;
      }
