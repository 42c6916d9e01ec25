-- A file that ends with a trailer reads as a slip. Assumes nothing.
use Rattle.std.specs.Prelude.{◌≡◌, ℕ, ◌+◌, ◌≤◌, true, ◌||◌, List, length, Some, None, nat_le}
use Rattle.ring.specs.declared.class.Class.{Class}
use Rattle.ring.specs.Classes.{size_of}
use Rattle.ring.specs.Faults.{first_failing}
use Rattle.slip.specs.declared.kind.Kind.{Kind}
use Rattle.slip.specs.Kinds.{body_of, takes_report}
use Rattle.slip.specs.Slips.{slip_tests, class_named, size_named}

-- the file has room for a slip, and no more than that where no report may stand before it
pub record Holds (kind : Kind) (class : Class) (file : List ℕ) : Type 0 where
  pub room : body_of kind class + 8 ≤ length file
  pub alone : (takes_report kind || nat_le (length file) (body_of kind class + 8)) ≡ true

-- the file passes every test of that kind, and names that class
pub record Passes (kind : Kind) (class : Class) (file : List ℕ) : Type 0 where
  pub tests : first_failing (slip_tests kind file) ≡ None
  pub named : class_named file ≡ Some class
  pub size : size_named file ≡ size_of class
