-- Outcomes of cases of slips. Assumes nothing.
use Rattle.std.specs.Prelude.{ℕ, ◌-◌, cond, List, ◌++◌, length, replicate, ℤ, pos, Some, None, codes, decimal, Option}
use Rattle.std.specs.Int.{w32}
use Rattle.std.specs.List.{flat_map, range_with_len}
use Rattle.std.specs.Str.{bytes_eq}
use Rattle.ring.specs.declared.class.Class.{Class}
use Rattle.ring.specs.Classes.{code_of}
use Rattle.ring.specs.Faults.{first_failing}
use Rattle.slip.specs.declared.kind.Kind.{Kind}
use Rattle.slip.specs.declared.kind.Kind.TheVariants.{Key, Form, Signature}
use Rattle.slip.specs.Kinds.{sections_of}
use Rattle.slip.specs.Slips.{slip_tests, class_named, size_named, report_bytes, section_place}
use Rattle.slip.specs.Signatures.{signature_slip, signature_numbers, write_tests, read_tests}
use Rattle.script.specs.Hexadecimal.{hex_text}
use Rattle.cases.specs.Texts.{outcome_or, bytes_text}
use Rattle.cases.specs.Packed.{unpacked, signed_in, signed_bytes}
use Rattle.cases.specs.Stops.{given}
use Rattle.cases.specs.Lines.{field_in, bytes_at, number_at}

abbrev pub kind_named : List ℕ → Option Kind
kind_named name =
    cond (bytes_eq name (codes "key")) (Some Key)
    (cond (bytes_eq name (codes "form")) (Some Form)
    (cond (bytes_eq name (codes "sig")) (Some Signature) None))

-- the code of a class, 0 for none
abbrev pub code_in : Option Class → ℕ
code_in None = 0
code_in (Some class) = code_of class

-- the first bytes of the sections
unfoldable pub places_text : Kind → ℕ → List ℕ → List ℕ
places_text kind n file =
    decimal (section_place kind n file 0) ++ flat_map (λ i. codes "," ++ decimal (section_place kind n file i)) (range_with_len 1 (sections_of kind - 1))

-- ok:CLASS:REPORT LENGTH:PLACES
abbrev pub slip_text : Kind → List ℕ → List ℕ
slip_text kind file =
    codes "ok:" ++ (decimal (code_in (class_named file)) ++ (codes ":" ++ (decimal (length (report_bytes kind (size_named file) file))
    ++ (codes ":" ++ places_text kind (size_named file) file))))

abbrev pub read_text : Kind → List ℕ → List ℕ
read_text kind file = outcome_or (first_failing (slip_tests kind file)) (slip_text kind file)

-- the bytes of a signature's numbers
abbrev pub number_bytes : List ℤ → List ℕ
number_bytes numbers = flat_map (signed_bytes w32) numbers

-- ok:REPORT LENGTH:NUMBERS
abbrev pub signature_text : List ℕ → List ℕ
signature_text file =
    codes "ok:" ++ (decimal (length (report_bytes Signature (size_named file) file)) ++ (codes ":" ++ hex_text (number_bytes (signature_numbers file))))

-- a list of so many numbers is lent
abbrev pub read_signature_text : List ℕ → ℕ → List ℕ
read_signature_text file room = outcome_or (first_failing (read_tests file (replicate room (pos 7)))) (signature_text file)

-- an area of so many bytes is lent
abbrev pub write_signature_text : List ℤ → ℕ → List ℕ
write_signature_text numbers room = outcome_or (first_failing (write_tests numbers (replicate room 7))) (bytes_text (signature_slip numbers))

-- the numbers of a signature
abbrev pub signature_at : List ℕ → List ℕ → Option (List ℤ)
signature_at name fields = given (bytes_at name fields) (λ bytes. Some (unpacked 4 (signed_in w32) bytes))

-- the three verbs
abbrev pub read_outcome : List ℕ → Option (List ℕ)
read_outcome fields =
    given (bytes_at (codes "file") fields) (λ file. given (field_in (codes "kind") fields) (λ name. given (kind_named name) (λ kind. Some (read_text kind file))))

abbrev pub read_signature_outcome : List ℕ → Option (List ℕ)
read_signature_outcome fields =
    given (bytes_at (codes "file") fields) (λ file. given (number_at (codes "list") fields) (λ room. Some (read_signature_text file room)))

abbrev pub write_signature_outcome : List ℕ → Option (List ℕ)
write_signature_outcome fields =
    given (signature_at (codes "list") fields) (λ numbers. given (number_at (codes "area") fields) (λ room. Some (write_signature_text numbers room)))
