-- Loading a form slip: the form that a file holds, and the tests in their order. Assumes nothing.
use Rattle.std.specs.Prelude.{◌≡◌, ℕ, ◌+◌, ◌*◌, List, [], ◌∷◌, ◌++◌, length, ℤ, Some, ◌==◌}
use Rattle.std.specs.List.{prefix_len}
use Rattle.ring.specs.Elements.{difference, adjoint}
use Rattle.ring.specs.Faults.{Test, test}
use Rattle.scheme.specs.Pairs.{is_zero}
use Rattle.scheme.specs.Keys.{Gram, gram, within, all_within, form_limit}
use Rattle.slip.specs.Slips.{slip_tests, class_named, size_named, section_bytes, section_place}
use Rattle.slip.specs.Numbers.{numbers32}
use Rattle.slip.specs.Refusals.{slip_fault}
use Rattle.slip.specs.declared.fault.SlipFault.TheVariants.{Range}
use Rattle.slip.specs.declared.kind.Kind.TheVariants.{Form}
use Rattle.key.specs.Gramheld.{gram_of}
use Rattle.key.specs.Refusals.{form_fault}
use Rattle.key.specs.Stored.{padded}
use Rattle.key.specs.declared.fault.FormFault.TheVariants.{Scratch, Adjoint}
use Rattle.key.specs.declared.form.Form.{Form as FormPlace}

-- the numbers of section i of a form slip
unfoldable pub form_numbers_in : List ℕ → ℕ → List ℤ
form_numbers_in file i = numbers32 (section_bytes Form (size_named file) file i)

unfoldable pub gram_in : List ℕ → Gram
gram_in file = gram (form_numbers_in file 0) (form_numbers_in file 1) (form_numbers_in file 2)

-- every number of section i is within ±33,554,431; the place is that of the first byte of the first other number
abbrev pub form_range_test : List ℕ → ℕ → Test
form_range_test file i = test (all_within form_limit (form_numbers_in file i)) (slip_fault (Range (section_place Form (size_named file) file i + 4 * prefix_len (within form_limit) (form_numbers_in file i))))

-- a scratch of so many words holds 4n
abbrev pub form_scratch_test : ℕ → ℕ → Test
form_scratch_test n words = test (words == 4 * n) (form_fault Scratch)

-- the first power at which q differs from its adjoint, n where there is none
unfoldable pub first_unlike : List ℤ → ℕ
first_unlike q = prefix_len is_zero (difference q (adjoint q))

-- q is its own adjoint; the place is the first other power, counted from a start
abbrev pub adjoint_test : ℕ → List ℤ → Test
adjoint_test start q = test (first_unlike q == length q) (form_fault (Adjoint (start + first_unlike q)))

-- q00, and then q11 with its powers counted from n
abbrev pub adjoint_tests : List ℤ → List ℤ → List Test
adjoint_tests q00 q11 = adjoint_test 0 q00 ∷ adjoint_test (length q00) q11 ∷ []

-- the tests after the slip's own and the scratch's
unfoldable pub form_body_tests : List ℕ → List Test
form_body_tests file = form_range_test file 0 ∷ form_range_test file 1 ∷ form_range_test file 2 ∷ adjoint_tests (form_numbers_in file 0) (form_numbers_in file 2)

-- what is asked of a form slip and of a scratch of so many words
unfoldable pub form_tests : List ℕ → ℕ → List Test
form_tests file words = slip_tests Form file ++ (form_scratch_test (size_named file) words ∷ form_body_tests file)

-- a form place with the class and the three elements of a slip
pub record FormLoaded (file : List ℕ) (form : FormPlace) : Type 0 where
  pub class : class_named file ≡ Some form.class
  pub gram_is : gram_of form ≡ gram_in file
  pub q00_is : form.q00 ≡ padded (form_numbers_in file 0)
  pub q01_is : form.q01 ≡ padded (form_numbers_in file 1)
  pub q11_is : form.q11 ≡ padded (form_numbers_in file 2)
