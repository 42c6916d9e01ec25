-- A key and a form that were made of the file of a slip.
use Rattle.std.proofs.Common.{◌≡◌, ℕ, [], ◌∷◌, List, Some}
use Rattle.ring.specs.Classes.{size_of}
use Rattle.ring.specs.Faults.{first_failing}
use Rattle.ring.specs.declared.class.Class.{Class}
use Rattle.scheme.specs.Keys.{form_of}
use Rattle.slip.specs.Slips.{class_named, size_named}
use Rattle.key.specs.Held.{basis_of}
use Rattle.key.specs.Loading.{Loaded, scratch_test}
use Rattle.key.specs.Writing.{form_slip}
use Rattle.key.specs.declared.key.Key.{Key}
use Rattle.answers.proofs.Scratches.{size_is}
use Rattle.cases.specs.Texts.{outcome_or, bytes_text}
use Rattle.cases.specs.Places.{slip_written_text, make_form_text}

pub written_as : (needed : ℕ → ℕ) (room : ℕ) (file slip held : List ℕ) (class : Class) → class_named file ≡ Some class → slip ≡ held
    → slip_written_text (needed (size_named file)) room held ≡ slip_written_text (needed (size_of class)) room slip
written_as needed room file slip held class named e = let size = size_is file class named in rw (size, e)

pub made_as : (file : List ℕ) (key : Key) (words : ℕ) → Loaded file key
    → make_form_text file words ≡ outcome_or (first_failing (scratch_test (size_of key.class) words ∷ [])) (bytes_text (form_slip key.class (form_of (basis_of key))))
made_as file key words h =
    let named = h.class in
    let size = size_is file key.class named in
    let is = h.basis_is in
    rw (size, named, is)
