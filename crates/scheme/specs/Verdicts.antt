-- Verification: the verdict on a signature under a form. Assumes nothing.
use Rattle.std.specs.Prelude.{◌≡◌, ℕ, ◌*◌, ◌&&◌, List, [], ◌∷◌, length, ℤ, pos, None, ◌==◌}
use Rattle.ring.specs.Classes.{size_of, bound_of, hash_length_of}
use Rattle.ring.specs.Faults.{Test, test, first_failing}
use Rattle.ring.specs.declared.class.Class.{Class}
use Rattle.scheme.specs.Hashes.{hash_pair}
use Rattle.scheme.specs.Keys.{Gram, all_within}
use Rattle.scheme.specs.Matrices.{Pair, applied, form_matrix, pairing}
use Rattle.scheme.specs.Pairs.{pair_from, numbers_of, less_twice, is_positive, up_to, leader}
use Rattle.scheme.specs.Refusals.{check_fault}
use Rattle.scheme.specs.declared.fault.CheckFault.TheVariants.{Length, Range, Bound, Sign}

-- the largest number of a signature, and of u, in size
abbrev pub signature_limit : ℕ
signature_limit = 524287

abbrev pub image_limit : ℕ
image_limit = 1048576

-- v = h − 2s
unfoldable pub point_of : ℕ → List ℕ → List ℤ → Pair
point_of n hash s = less_twice (hash_pair n hash) (pair_from n s)

-- u0 = q00·v0 + q01·v1 and u1 = q01*·v0 + q11·v1
unfoldable pub image_of : Gram → Pair → Pair
image_of q v = applied (form_matrix q) v

-- N, the sum of v_i · u_i over all 2n places
unfoldable pub length_under : Gram → Pair → ℤ
length_under q v = pairing v (image_of q v)

-- hash, signature and scratch have the lengths of the class
abbrev pub verify_sizes : Class → List ℕ → List ℤ → ℕ → Test
verify_sizes class hash s words =
    test (length hash == hash_length_of class && length s == 2 * size_of class && words == 4 * size_of class) (check_fault Length)

-- what is asked of s; of u and N; and of the first nonzero coefficient of v1
unfoldable pub verdict_tests : Class → Gram → Pair → List Test
verdict_tests class q v =
    test (all_within image_limit (numbers_of (image_of q v)) && up_to (bound_of class) (length_under q v)) (check_fault Bound)
    ∷ test (is_positive (leader v.second)) (check_fault Sign)
    ∷ []

-- what is asked of a hash and a signature under a form, with a scratch of so many words
unfoldable pub verify_tests : Class → Gram → List ℕ → List ℤ → ℕ → List Test
verify_tests class q hash s words =
    verify_sizes class hash s words
    ∷ test (all_within signature_limit s) (check_fault Range)
    ∷ verdict_tests class q (point_of (size_of class) hash s)

-- the signature is accepted, and the answer is N
pub record Accepted (class : Class) (q : Gram) (hash : List ℕ) (s : List ℤ) (N : ℕ) : Type 0 where
  pub passes : first_failing (verify_tests class q hash s (4 * size_of class)) ≡ None
  pub length_is : length_under q (point_of (size_of class) hash s) ≡ pos N
