-- The kinds of slip. Assumes nothing.
use Rattle.std.specs.Prelude.{ℕ, ◌*◌, Bool, true, false}
use Rattle.ring.specs.declared.class.Class.{Class}
use Rattle.ring.specs.Classes.{size_of}
use Rattle.slip.specs.declared.kind.Kind.{Kind}
use Rattle.slip.specs.declared.kind.Kind.TheVariants.{Key, Form, Signature}

-- the byte of a kind in a trailer
abbrev pub byte_of : Kind → ℕ
byte_of Key = 0x4B
byte_of Form = 0x46
byte_of Signature = 0x53

-- the sections of a body: f, g, F, G; q00, q01, q11; s0, s1
abbrev pub sections_of : Kind → ℕ
sections_of Key = 4
sections_of Form = 3
sections_of Signature = 2

-- the bytes of a number
abbrev pub width_of : Kind → ℕ
width_of Key = 1
width_of Form = 4
width_of Signature = 4

-- whether a report may stand before the body
abbrev pub takes_report : Kind → Bool
takes_report Key = false
takes_report Form = false
takes_report Signature = true

-- the bytes of a section and of a body, for elements of n numbers
abbrev pub part_of : Kind → ℕ → ℕ
part_of kind n = width_of kind * n

abbrev pub bytes_of : Kind → ℕ → ℕ
bytes_of kind n = sections_of kind * part_of kind n

-- the bytes of a class's body
abbrev pub body_of : Kind → Class → ℕ
body_of kind class = bytes_of kind (size_of class)
