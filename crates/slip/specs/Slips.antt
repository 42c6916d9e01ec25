-- A slip in a file, as the list of the file's bytes: a body and then a trailer of 8 bytes. Assumes nothing.
use Rattle.std.specs.Prelude.{ℕ, ◌+◌, ◌-◌, ◌*◌, Bool, ◌&&◌, ◌||◌, List, [], ◌∷◌, length, take, drop, is_some, Some, None, Option, ◌==◌, nat_le, nat_lt, slice_index}
use Rattle.ring.specs.declared.class.Class.{Class}
use Rattle.ring.specs.declared.fault.Fault.{Fault}
use Rattle.ring.specs.declared.fault.Layer.TheVariants.{Slip}
use Rattle.ring.specs.Classes.{with_code, size_of}
use Rattle.ring.specs.Faults.{Test, test, fault}
use Rattle.slip.specs.declared.kind.Kind.{Kind}
use Rattle.slip.specs.Kinds.{byte_of, sections_of, takes_report, part_of, bytes_of}

-- the numbers in two and in four bytes from place p on, highest byte first
unfoldable pub at16 : List ℕ → ℕ → ℕ
at16 bytes p = slice_index bytes p * 256 + slice_index bytes (p + 1)

unfoldable pub at32 : List ℕ → ℕ → ℕ
at32 bytes p = slice_index bytes p * 16777216 + slice_index bytes (p + 1) * 65536 + slice_index bytes (p + 2) * 256 + slice_index bytes (p + 3)

-- the trailer: kind (1 byte), class (1), section count (2) and back (4), from these places on
abbrev pub kind_place : List ℕ → ℕ
kind_place file = length file - 8

abbrev pub class_place : List ℕ → ℕ
class_place file = length file - 7

abbrev pub sections_place : List ℕ → ℕ
sections_place file = length file - 6

abbrev pub back_place : List ℕ → ℕ
back_place file = length file - 4

-- the distance from the file's end to the body's first byte
unfoldable pub back : List ℕ → ℕ
back file = at32 file (back_place file)

-- the class that the trailer names
unfoldable pub class_named : List ℕ → Option Class
class_named file = with_code (slice_index file (class_place file))

abbrev pub size_in : Option Class → ℕ
size_in None = 0
size_in (Some class) = size_of class

-- its n, and 0 where the trailer names no class
unfoldable pub size_named : List ℕ → ℕ
size_named file = size_in (class_named file)

-- refusals: the file's length, and a field
abbrev pub short : List ℕ → Fault
short file = fault 1 Slip (length file)

abbrev pub wrong : ℕ → Fault
wrong place = fault 2 Slip place

-- what is asked of a file that is to hold a slip of this kind
unfoldable pub slip_tests : Kind → List ℕ → List Test
slip_tests kind file =
    test (nat_le 8 (length file)) (short file)
    ∷ test (slice_index file (kind_place file) == byte_of kind) (wrong (kind_place file))
    ∷ test (is_some (class_named file)) (wrong (class_place file))
    ∷ test (at16 file (sections_place file) == sections_of kind) (wrong (sections_place file))
    ∷ test (back file == bytes_of kind (size_named file) + 8) (wrong (back_place file))
    ∷ test (nat_le (back file) (length file)) (short file)
    ∷ test (takes_report kind || nat_le (length file) (back file)) (wrong (back_place file))
    ∷ []

-- The parts of a file with a slip of this kind, for elements of n numbers.

-- the body's first byte
unfoldable pub body_place : Kind → ℕ → List ℕ → ℕ
body_place kind n file = length file - (bytes_of kind n + 8)

-- the bytes before the body
unfoldable pub report_bytes : Kind → ℕ → List ℕ → List ℕ
report_bytes kind n file = take (body_place kind n file) file

-- section i, counted from 0: its first byte, and its bytes
unfoldable pub section_place : Kind → ℕ → List ℕ → ℕ → ℕ
section_place kind n file i = body_place kind n file + i * part_of kind n

unfoldable pub section_bytes : Kind → ℕ → List ℕ → ℕ → List ℕ
section_bytes kind n file i = take (part_of kind n) (drop (section_place kind n file i) file)

-- whether there is a section i, and the file has room for the slip
unfoldable pub section_there : Kind → ℕ → List ℕ → ℕ → Bool
section_there kind n file i = nat_lt i (sections_of kind) && nat_le (bytes_of kind n + 8) (length file)
