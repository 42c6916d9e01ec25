-- Decimal numbers, and samples as bytes. Assumes nothing.
use Rattle.std.specs.Prelude.{ℕ, ◌+◌, ◌-◌, ◌*◌, ◌%◌, Bool, cond, ◌&&◌, List, [], ◌∷◌, length, ℤ, Some, None, Option, ◌==◌, nat_le, nat_lt}
use Rattle.std.specs.Int.{w16, cast_signed}
use Rattle.std.specs.Char.{is_ascii_digit}
use Rattle.script.specs.Hexadecimal.{every, by_twos}

-- n with these decimal digits behind it
unfoldable pub followed : ℕ → List ℕ → ℕ
followed n [] = n
followed n (c ∷ digits) = followed (n * 10 + (c - 48)) digits

-- digits only, at least one
abbrev pub is_decimal : List ℕ → Bool
is_decimal text = nat_lt 0 (length text) && every is_ascii_digit text

-- the number in decimal digits, where it is at most this large
unfoldable pub number_in : ℕ → List ℕ → Option ℕ
number_in most text = cond (is_decimal text && nat_le (followed 0 text) most) (Some (followed 0 text)) None

-- a signed number in two bytes, highest byte first
abbrev pub number16 : ℕ → ℕ → ℤ
number16 high low = cast_signed w16 (high * 256 + low)

-- the numbers of a sample, where the number of bytes is even
unfoldable pub sample_in : List ℕ → Option (List ℤ)
sample_in bytes = cond (length bytes % 2 == 0) (Some (by_twos number16 bytes)) None
