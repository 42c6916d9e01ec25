-- Slips of signatures: s0 and s1, of n numbers each. Assumes nothing.
use Rattle.std.specs.Prelude.{◌≡◌, ℕ, ◌+◌, ◌*◌, ◌/◌, ◌%◌, cond, List, [], ◌∷◌, ◌++◌, length, ℤ, is_some, Some, None, Option, ◌==◌}
use Rattle.ring.specs.declared.class.Class.{Class}
use Rattle.ring.specs.Classes.{with_size}
use Rattle.ring.specs.Faults.{Test, test, first_failing}
use Rattle.slip.specs.declared.kind.Kind.TheVariants.{Signature}
use Rattle.slip.specs.Numbers.{bytes32, numbers32}
use Rattle.slip.specs.Slips.{slip_tests, class_named, size_named, report_bytes, section_bytes}
use Rattle.slip.specs.Writes.{lent, trailer_of, same_tests}

-- the class whose signatures have this many numbers, 2n
unfoldable pub signature_class : ℕ → Option Class
signature_class count = cond (count % 2 == 0) (with_size (count / 2)) None

-- its trailer
abbrev pub trailer_in : Option Class → List ℕ
trailer_in None = []
trailer_in (Some class) = trailer_of Signature class

-- the slip with these numbers: s0, then s1
unfoldable pub signature_slip : List ℤ → List ℕ
signature_slip numbers = bytes32 numbers ++ trailer_in (signature_class (length numbers))

-- what is asked of the numbers and the area of a signature that is to be written
unfoldable pub write_tests : List ℤ → List ℕ → List Test
write_tests numbers area =
    test (is_some (signature_class (length numbers))) lent
    ∷ same_tests (length area) (4 * length numbers + 8)

-- what is asked of a file and of the list for its numbers
unfoldable pub read_tests : List ℕ → List ℤ → List Test
read_tests file list = slip_tests Signature file ++ same_tests (length list) (2 * size_named file)

-- the numbers of a file's signature
unfoldable pub signature_numbers : List ℕ → List ℤ
signature_numbers file =
    numbers32 (section_bytes Signature (size_named file) file 0) ++ numbers32 (section_bytes Signature (size_named file) file 1)

-- the file reads as a signature with these numbers, behind this report
pub record ReadsAs (report : List ℕ) (numbers : List ℤ) (file : List ℕ) : Type 0 where
  pub passes : first_failing (slip_tests Signature file) ≡ None
  pub named : class_named file ≡ signature_class (length numbers)
  pub size : 2 * size_named file ≡ length numbers
  pub before : report_bytes Signature (size_named file) file ≡ report
  pub held : signature_numbers file ≡ numbers
