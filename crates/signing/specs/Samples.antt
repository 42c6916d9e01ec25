-- What is asked of a sample, and what its signing gives. Assumes nothing.
use Rattle.std.specs.Prelude.{◌≡◌, ◌*◌, ◌≤◌, Bool, true, not, List, length, ℤ}
use Rattle.ring.specs.Classes.{size_of, bound_of}
use Rattle.ring.specs.Faults.{Test, test}
use Rattle.ring.specs.declared.class.Class.{Class}
use Rattle.scheme.specs.Keys.{Basis, all_within}
use Rattle.scheme.specs.Matrices.{Pair}
use Rattle.scheme.specs.Pairs.{pair_from, numbers_of, is_zero, leader}
use Rattle.scheme.specs.Refusals.{session_fault}
use Rattle.scheme.specs.Signing.{source_of, changes, signature_of, length_of}
use Rattle.scheme.specs.declared.fault.SessionFault.TheVariants.{Zero}
use Rattle.signing.specs.Rows.{sample_limit}

-- v1 is not 0
abbrev pub zero_test : Basis → Pair → Test
zero_test b x = test (not (is_zero (leader (source_of b x).second))) (session_fault Zero)

-- a sample, an area and a scratch of the class's lengths
pub record SizedSample (class : Class) (sample area words : List ℤ) : Type 0 where
  pub sample_long : length sample ≡ 2 * size_of class
  pub area_long : length area ≡ 2 * size_of class
  pub words_long : length words ≡ 4 * size_of class

-- and the sample is within its bound
pub record ShortSample (class : Class) (sample area words : List ℤ) : Type 0 where
  pub sized : SizedSample class sample area words
  pub bounded : length_of (pair_from (size_of class) sample) ≤ bound_of class

-- its two elements, with an area and room for a row
pub record ShortPair (class : Class) (x0 x1 area words : List ℤ) : Type 0 where
  pub x0_long : length x0 ≡ size_of class
  pub x1_long : length x1 ≡ size_of class
  pub area_long : length area ≡ 2 * size_of class
  pub words_long : length words ≡ 2 * size_of class
  pub x0_small : all_within sample_limit x0 ≡ true
  pub x1_small : all_within sample_limit x1 ≡ true

-- a signature, and whether the sign changed
pub record Signed (b : Basis) (h x : Pair) (changed : Bool) (area : List ℤ) : Type 0 where
  pub changed_is : changed ≡ changes (source_of b x)
  pub area_is : area ≡ numbers_of (signature_of b h x)
