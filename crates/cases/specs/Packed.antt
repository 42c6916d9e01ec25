-- Numbers in a fixed number of bytes each. Assumes nothing.
use Rattle.std.specs.Prelude.{ℕ, ◌/◌, List, map, length, ℤ, slice_index, ◌==◌}
use Rattle.std.specs.Int.{Width, cast_signed, cast_unsigned, from_be_bytes, to_be_bytes}
use Rattle.std.specs.Simd.{first_chunks}
use Rattle.ring.specs.declared.kind.Bit.{Bit}

-- the numbers in n bytes each; what is left over is no number
abbrev pub unpacked : {X : Type 0} → ℕ → (List ℕ → X) → List ℕ → List X
unpacked n read bytes = map read (first_chunks n (length bytes / n) bytes)

-- a signed number, highest byte first
abbrev pub signed_in : Width → List ℕ → ℤ
signed_in w bytes = cast_signed w (from_be_bytes w bytes)

abbrev pub signed_bytes : Width → ℤ → List ℕ
signed_bytes w z = to_be_bytes w (cast_unsigned w z)

-- 01 is a set bit, every other byte is none
abbrev pub bit_in : List ℕ → Bit
bit_in bytes = record { 0 = slice_index bytes 0 == 1 }
