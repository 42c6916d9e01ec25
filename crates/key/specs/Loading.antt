-- Loading a key slip: the basis that a file holds, and the tests in their order. Assumes nothing.
use Rattle.std.specs.Prelude.{◌≡◌, ℕ, ◌+◌, ◌*◌, List, [], ◌∷◌, ◌++◌, ℤ, pos, Some, ◌==◌}
use Rattle.std.specs.List.{prefix_len}
use Rattle.ring.specs.Elements.{difference, constant, total}
use Rattle.ring.specs.declared.class.Class.{Class}
use Rattle.ring.specs.Faults.{Test, test}
use Rattle.scheme.specs.Pairs.{is_zero}
use Rattle.scheme.specs.Keys.{Basis, basis, within, all_within, odd, determinant, key_limit}
use Rattle.slip.specs.Slips.{slip_tests, class_named, size_named, section_bytes, section_place}
use Rattle.slip.specs.Numbers.{numbers8}
use Rattle.slip.specs.Refusals.{slip_fault}
use Rattle.slip.specs.declared.fault.SlipFault.TheVariants.{Range}
use Rattle.slip.specs.declared.kind.Kind.TheVariants.{Key}
use Rattle.key.specs.Held.{basis_of}
use Rattle.key.specs.Refusals.{key_fault}
use Rattle.key.specs.declared.fault.KeyFault.TheVariants.{Scratch, EvenF, EvenG, Determinant}
use Rattle.key.specs.Stored.{padded}
use Rattle.key.specs.declared.key.Key.{Key as KeyPlace}

-- the numbers of section i of a key slip
unfoldable pub numbers_in : List ℕ → ℕ → List ℤ
numbers_in file i = numbers8 (section_bytes Key (size_named file) file i)

unfoldable pub basis_in : List ℕ → Basis
basis_in file = basis (numbers_in file 0) (numbers_in file 1) (numbers_in file 2) (numbers_in file 3)

-- f·G − g·F − 1
unfoldable pub excess : ℕ → Basis → List ℤ
excess n b = difference (determinant b) (constant n (pos 1))

-- every number of section i is within ±127; the place is that of the first other byte
abbrev pub range_test : List ℕ → ℕ → Test
range_test file i = test (all_within key_limit (numbers_in file i)) (slip_fault (Range (section_place Key (size_named file) file i + prefix_len (within key_limit) (numbers_in file i))))

-- a scratch of so many words holds 4n
abbrev pub scratch_test : ℕ → ℕ → Test
scratch_test n words = test (words == 4 * n) (key_fault Scratch)

-- f·G − g·F is 1; the place is the power of the first wrong coefficient
abbrev pub determinant_test : ℕ → Basis → Test
determinant_test n b = test (prefix_len is_zero (excess n b) == n) (key_fault (Determinant (prefix_len is_zero (excess n b))))

-- odd sums, and determinant one
unfoldable pub sound_tests : ℕ → Basis → List Test
sound_tests n b =
    test (odd (total b.f)) (key_fault EvenF)
    ∷ test (odd (total b.g)) (key_fault EvenG)
    ∷ determinant_test n b
    ∷ []

-- the tests after the slip's own and the scratch's
unfoldable pub body_tests : List ℕ → List Test
body_tests file = range_test file 0 ∷ range_test file 1 ∷ range_test file 2 ∷ range_test file 3 ∷ sound_tests (size_named file) (basis_in file)

-- what is asked of a key slip and of a scratch of so many words
unfoldable pub key_tests : List ℕ → ℕ → List Test
key_tests file words = slip_tests Key file ++ (scratch_test (size_named file) words ∷ body_tests file)

-- a key place of this class with these four elements
pub record Holds (key : KeyPlace) (class : Class) (f g F G : List ℤ) : Type 0 where
  pub class_is : key.class ≡ class
  pub f_is : key.f ≡ padded f
  pub g_is : key.g ≡ padded g
  pub F_is : key.cap_f ≡ padded F
  pub G_is : key.cap_g ≡ padded G

-- a key place with the class and the four elements of a slip
pub record Loaded (file : List ℕ) (key : KeyPlace) : Type 0 where
  pub class : class_named file ≡ Some key.class
  pub basis_is : basis_of key ≡ basis_in file
  pub elements : Holds key key.class (numbers_in file 0) (numbers_in file 1) (numbers_in file 2) (numbers_in file 3)
