-- Slips as they are written. Assumes nothing.
use Rattle.std.specs.Prelude.{ℕ, ◌+◌, List, [], ◌∷◌, ◌++◌, length, take, drop, ◌==◌, nat_le}
use Rattle.ring.specs.declared.class.Class.{Class}
use Rattle.ring.specs.declared.fault.Fault.{Fault}
use Rattle.ring.specs.declared.fault.Layer.TheVariants.{Slip}
use Rattle.ring.specs.Classes.{code_of}
use Rattle.ring.specs.Faults.{Test, test, fault}
use Rattle.slip.specs.declared.kind.Kind.{Kind}
use Rattle.slip.specs.Kinds.{byte_of, sections_of, body_of}
use Rattle.slip.specs.Numbers.{split16, split32}

-- a lent area or list of the wrong length
abbrev pub lent : Fault
lent = fault 1 Slip 0

-- the area with these bytes from a place on
unfoldable pub written : {X : Type 0} → ℕ → List X → List X → List X
written place bytes area = take place area ++ (bytes ++ drop (place + length bytes) area)

-- an area has room for this many bytes
abbrev pub room_tests : ℕ → List ℕ → List Test
room_tests needed area = test (nat_le needed (length area)) lent ∷ []

-- two lengths agree
abbrev pub same_tests : ℕ → ℕ → List Test
same_tests have wanted = test (have == wanted) lent ∷ []

-- the trailer of a slip
unfoldable pub trailer_of : Kind → Class → List ℕ
trailer_of kind class =
    byte_of kind ∷ code_of class ∷ (split16 (sections_of kind) ++ split32 (body_of kind class + 8))
