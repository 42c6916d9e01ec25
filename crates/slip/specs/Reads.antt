-- What a reader answers. Assumes nothing.
use Rattle.std.specs.Prelude.{◌≡◌, ℕ, ◌+◌, ◌≤◌, true, false, List, length, Some, Option, MatchOption}
use Rattle.ring.specs.Classes.{size_of}
use Rattle.slip.specs.declared.kind.Kind.{Kind}
use Rattle.slip.specs.declared.reader.Part.{Part}
use Rattle.slip.specs.declared.reader.Slip.{Slip}
use Rattle.slip.specs.Kinds.{body_of}
use Rattle.slip.specs.Slips.{class_named, size_named, report_bytes, section_there, section_bytes, section_place}

-- a slip that was read: it holds the file, the kind that was asked for and the class that is named,
-- and the file has room for it
pub record Read (kind : Kind) (file : List ℕ) (s : Slip) : Type 0 where
  pub bytes : s.file.now ≡ file
  pub asked : s.kind ≡ kind
  pub named : class_named file ≡ Some s.class
  pub size : size_named file ≡ size_of s.class
  pub room : body_of kind s.class + 8 ≤ length file

-- these bytes of the file, from this place on
pub record IsPart (bytes : List ℕ) (place : ℕ) (p : Part) : Type 0 where
  pub held : p.bytes.now ≡ bytes
  pub from : p.place ≡ place

-- what stands before a slip's body
abbrev pub IsReport : Slip → Part → Type 0
IsReport s p = IsPart (report_bytes s.kind (size_of s.class) s.file.now) 0 p

-- a slip's section i, where it is there
abbrev pub IsSection : Slip → ℕ → Option Part → Type 0
IsSection s i r =
    MatchOption r (section_there s.kind (size_of s.class) s.file.now i ≡ false)
    (λ p. (section_there s.kind (size_of s.class) s.file.now i ≡ true)
    × IsPart (section_bytes s.kind (size_of s.class) s.file.now i) (section_place s.kind (size_of s.class) s.file.now i) p)
