-- Signed numbers as bytes, highest byte first. Assumes nothing.
use Rattle.std.specs.Prelude.{ℕ, ◌*◌, ◌/◌, ◌%◌, List, [], ◌∷◌, ◌++◌, map, length, ℤ}
use Rattle.std.specs.Int.{w8, w32, cast_signed, cast_unsigned}
use Rattle.std.specs.List.{range_with_len}
use Rattle.slip.specs.Slips.{at32}

-- v in two and in four bytes
unfoldable pub split16 : ℕ → List ℕ
split16 v = (v / 256 % 256) ∷ (v % 256) ∷ []

unfoldable pub split32 : ℕ → List ℕ
split32 v = (v / 16777216 % 256) ∷ (v / 65536 % 256) ∷ (v / 256 % 256) ∷ (v % 256) ∷ []

-- numbers in one and in four bytes each
unfoldable pub bytes8 : List ℤ → List ℕ
bytes8 numbers = map (cast_unsigned w8) numbers

unfoldable pub bytes32 : List ℤ → List ℕ
bytes32 [] = []
bytes32 (z ∷ numbers) = split32 (cast_unsigned w32 z) ++ bytes32 numbers

-- the numbers that bytes stand for, with one and with four bytes each
unfoldable pub numbers8 : List ℕ → List ℤ
numbers8 bytes = map (cast_signed w8) bytes

unfoldable pub number32 : List ℕ → ℕ → ℤ
number32 bytes k = cast_signed w32 (at32 bytes (4 * k))

unfoldable pub numbers32 : List ℕ → List ℤ
numbers32 bytes = map (number32 bytes) (range_with_len 0 (length bytes / 4))
