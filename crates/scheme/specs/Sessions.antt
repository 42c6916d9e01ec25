-- A signing session as data: its state, its calls and what they answer. Assumes nothing.
use Rattle.std.specs.Prelude.{ℕ, ◌/◌, min, Bool, List, [], length, ℤ, None, Option}
use Rattle.ring.specs.Classes.{hash_length_of}
use Rattle.ring.specs.declared.class.Class.{Class}
use Rattle.ring.specs.declared.fault.Fault.{Fault}

-- A state: the hashes of the issued signatures, oldest first, which the log holds from byte 0 on; the hash
-- of the standing order; how many signatures may be issued; and the log's bytes behind the entries.
pub record State : Type 0 where
  pub entries : List (List ℕ)
  pub standing : Option (List ℕ)
  pub capacity : ℕ
  pub spare : List ℕ

-- an entry takes n/4 bytes of the log, and there are at most 65,535
abbrev pub capacity_of : Class → ℕ → ℕ
capacity_of class bytes = min (bytes / hash_length_of class) 65535

-- a session that was just opened on a log with these bytes
unfoldable pub opened : Class → List ℕ → State
opened class log = record { entries = []; standing = None; capacity = capacity_of class (length log); spare = log }

-- A call with its arguments: an order is given by its number, an output area by what it holds before,
-- a scratch by its number of words.
pub data Call : Type 0 where
  announce : (hash : List ℕ) → Call
  target : (order : ℕ) (area : List ℕ) (words : ℕ) → Call
  sign : (order : ℕ) (sample : List ℤ) (area : List ℤ) (words : ℕ) → Call
  withdraw : (order : ℕ) → Call
  count : Call

-- what a call answers
pub data Answer : Type 0 where
  refused : Fault → Answer
  -- announce: the order's number
  ordered : ℕ → Answer
  -- target: t was written
  aimed : Answer
  -- sign: the squared length of the sample, and whether the sign changed
  signed : ℕ → Bool → Answer
  withdrawn : Answer
  -- count: the signatures issued, the capacity, and whether an order stands
  counted : ℕ → ℕ → Bool → Answer

-- What a call gives: its answer; its area, a target or a signature, as it is afterwards (empty where the
-- call has none); and the state afterwards.
pub record Step : Type 0 where
  pub answer : Answer
  pub target_area : List ℕ
  pub signature_area : List ℤ
  pub after : State

-- a call in a run, with the state that it met
pub record Event : Type 0 where
  pub before : State
  pub call : Call
  pub step : Step
