-- The lines that programs write, as lists of bytes. Assumes nothing.
use Rattle.std.specs.Prelude.{ℕ, ◌*◌, List, ◌++◌, ℤ, pos, Some, None, codes, decimal, Option, slice_index_or}
use Rattle.std.specs.Fmt.{signed_decimal}
use Rattle.ring.specs.Classes.{code_of, size_of}
use Rattle.ring.specs.Faults.{first_failing}
use Rattle.ring.specs.declared.class.Class.{Class}
use Rattle.ring.specs.declared.fault.Fault.{Fault}
pub use Rattle.ring.specs.Texts.{layer_name}
use Rattle.scheme.specs.Keys.{Gram, form_of}
use Rattle.slip.specs.Slips.{class_named, size_named}
use Rattle.key.specs.Loading.{basis_in, key_tests}

-- refused NUMBER LAYER PLACE
abbrev pub refusal_line : Fault → List ℕ
refusal_line e = codes "refused " ++ (decimal e.number ++ (codes " " ++ (layer_name e.layer ++ (codes " " ++ (decimal e.place ++ codes "\n")))))

-- the constant coefficient, in signed decimal
abbrev pub constant_text : List ℤ → List ℕ
constant_text a = signed_decimal (slice_index_or a 0 (pos 0))

-- class=CLASS n=SIZE q00=.. q01=.. q11=..
abbrev pub form_line : Class → Gram → List ℕ
form_line class q =
    codes "class=" ++ (decimal (code_of class) ++ (codes " n=" ++ (decimal (size_of class)
    ++ (codes " q00=" ++ (constant_text q.q00 ++ (codes " q01=" ++ (constant_text q.q01 ++ (codes " q11=" ++ (constant_text q.q11 ++ codes "\n")))))))))

abbrev pub form_line_of : Option Class → Gram → List ℕ
form_line_of None q = codes ""
form_line_of (Some class) q = form_line class q

-- the refusal, or the line of the form
abbrev pub line_or : Option Fault → List ℕ → List ℕ
line_or None line = line
line_or (Some e) line = refusal_line e

-- what `measure` writes for a file: the first failing test of loading it as a key with a scratch of the
-- right length, or the class, the size and the constants of that key's form
unfoldable pub measure_line : List ℕ → List ℕ
measure_line file = line_or (first_failing (key_tests file (4 * size_named file))) (form_line_of (class_named file) (form_of (basis_in file)))

-- of a longer input so many bytes are the file
abbrev pub file_limit : ℕ
file_limit = 65536
