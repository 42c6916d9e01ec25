-- A section of a slip in fixed memory, and what its numbers are tested for. Assumes nothing.
use Rattle.std.specs.Prelude.{◌≡◌, ℕ, ◌+◌, ◌-◌, ◌*◌, List, ◌++◌, length, replicate, ℤ}
use Rattle.std.specs.List.{prefix_len}
use Rattle.ring.specs.Classes.{size_of}
use Rattle.ring.specs.Faults.{Test, test}
use Rattle.scheme.specs.Keys.{within, all_within}
use Rattle.slip.specs.Refusals.{slip_fault}
use Rattle.slip.specs.Slips.{section_bytes, section_place}
use Rattle.slip.specs.declared.fault.SlipFault.TheVariants.{Range}
use Rattle.slip.specs.declared.reader.Slip.{Slip}
use Rattle.key.specs.Stored.{room_of}

-- the bytes of section i, and the place of the first
abbrev pub bytes_at : Slip → ℕ → List ℕ
bytes_at s i = section_bytes s.kind (size_of s.class) s.file.now i

abbrev pub place_at : Slip → ℕ → ℕ
place_at s i = section_place s.kind (size_of s.class) s.file.now i

-- every number is within the limit; the place is that of the first byte of the first other number
abbrev pub limit_test : ℕ → ℕ → ℕ → List ℤ → Test
limit_test limit width place numbers = test (all_within limit numbers) (slip_fault (Range (place + width * prefix_len (within limit) numbers)))

-- memory with these n numbers, and one zero everywhere behind them
pub record InMemory {X : Type 0} (IsZero : X → Type 0) (n : ℕ) (numbers memory : List X) : Type 0 where
  pub long : length numbers ≡ n
  pub zero : X
  pub is_zero : IsZero zero
  pub memory_is : memory ≡ numbers ++ replicate (room_of - length numbers) zero
