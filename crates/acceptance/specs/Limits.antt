-- Under a key's form the limits on s and u refuse nothing that the bound L lets through. Assumes nothing.
use Rattle.std.specs.Prelude.{◌≡◌, ℕ, ◌*◌, true, List, length, ℤ}
use Rattle.ring.specs.Classes.{size_of, bound_of}
use Rattle.ring.specs.declared.class.Class.{Class}
use Rattle.scheme.specs.Keys.{Basis, IsKey, form_of, all_within}
use Rattle.scheme.specs.Pairs.{numbers_of, up_to}
use Rattle.scheme.specs.Verdicts.{signature_limit, image_limit, point_of, image_of, length_under}

-- the numbers of s and of u keep their limits
pub record LimitsKept (class : Class) (b : Basis) (hash : List ℕ) (s : List ℤ) : Type 0 where
  pub signature : all_within signature_limit s ≡ true
  pub image : all_within image_limit (numbers_of (image_of (form_of b) (point_of (size_of class) hash s))) ≡ true

abbrev pub LimitsNeverRefuse : Type 0
LimitsNeverRefuse =
    (class : Class) (b : Basis) → IsKey (size_of class) b → (hash : List ℕ) (s : List ℤ) → length s ≡ 2 * size_of class
    → up_to (bound_of class) (length_under (form_of b) (point_of (size_of class) hash s)) ≡ true → LimitsKept class b hash s
