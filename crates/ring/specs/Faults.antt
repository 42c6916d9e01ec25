-- Refusals: every call has one ordered list of tests, and its answer is the first that fails, or the work.
-- Assumes nothing.
use Rattle.std.specs.Prelude.{◌≡◌, ℕ, Bool, cond, List, [], ◌∷◌, Some, None, Ok, Err, Option, Result}
use Rattle.ring.specs.declared.fault.Fault.{Fault}
use Rattle.ring.specs.declared.fault.Layer.{Layer}
use Rattle.ring.specs.declared.fault.Layer.TheVariants.{Ring}
use Rattle.ring.specs.declared.fault.RingFault.{RingFault}
use Rattle.ring.specs.declared.fault.RingFault.TheVariants.{Length, Range}

-- the refusal with this number, of this layer, at this place
abbrev pub fault : ℕ → Layer → ℕ → Fault
fault number layer place = record { number = number; layer = layer; place = place }

-- a test of a call, and the refusal where it fails
pub record Test : Type 0 where
  pub passes : Bool
  pub refusal : Fault

abbrev pub test : Bool → Fault → Test
test passes refusal = record { passes = passes; refusal = refusal }

-- the refusal of the first test that fails
abbrev pub first_failing : List Test → Option Fault
first_failing [] = None
first_failing (t ∷ ts) = cond t.passes (first_failing ts) (Some t.refusal)

-- A call answers the refusal of its first failing test, or does its work where there is none.
-- A layer's own faults stand for refusals by `meaning`.
abbrev pub Answers : {T E : Type 0} → (E → Fault) → List Test → (T → Type 0) → Result T E → Type 0
Answers meaning tests Work (Ok x) = (first_failing tests ≡ None) × Work x
Answers meaning tests Work (Err e) = first_failing tests ≡ Some (meaning e)

-- what the faults of the ring's layer stand for
abbrev pub ring_fault : RingFault → Fault
ring_fault Length = fault 1 Ring 0
ring_fault Range = fault 3 Ring 0
