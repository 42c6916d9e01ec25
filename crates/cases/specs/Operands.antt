-- Operands: the bytes and the numbers that texts stand for. Assumes nothing.
use Rattle.std.specs.Prelude.{ℕ, ◌+◌, ◌*◌, min, List, [], ◌∷◌, Some, Option}
use Rattle.script.specs.Hexadecimal.{hex_digit, hex_bytes}
use Rattle.cases.specs.Stops.{given, fold_given}

-- bytes; `-` and no text stand for none
abbrev pub bytes_in : List ℕ → Option (List ℕ)
bytes_in [] = Some []
bytes_in (b ∷ text) = hex_bytes (b ∷ text)

-- n with one digit behind it; the largest number of 64 bits stands for every larger one
abbrev pub with_digit : ℕ → ℕ → ℕ
with_digit n d = min (n * 10 + d) 18446744073709551615

-- the same, where there is such a digit; `a` to `f` count as 10 to 15
abbrev pub next_digit : ℕ → ℕ → Option ℕ
next_digit n c = given (hex_digit c) (λ d. Some (with_digit n d))

-- a number in decimal digits; no digits stand for 0
abbrev pub number_in : List ℕ → Option ℕ
number_in text = fold_given next_digit 0 text
