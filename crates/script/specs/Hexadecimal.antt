-- Bytes as lower-case hexadecimal text, two digits each. Assumes nothing.
use Rattle.std.specs.Prelude.{ℕ, ◌+◌, ◌-◌, ◌*◌, ◌/◌, ◌%◌, Bool, true, cond, ◌&&◌, List, [], ◌∷◌, length, is_some, Some, None, codes, Option, ◌==◌, nat_lt}
use Rattle.std.specs.Option.{unwrap_or}
use Rattle.std.specs.Int.{is_in_range}
use Rattle.std.specs.Char.{digit_char}
use Rattle.std.specs.Str.{bytes_eq}

-- each byte passes the test
unfoldable pub every : (ℕ → Bool) → List ℕ → Bool
every p [] = true
every p (b ∷ bytes) = p b && every p bytes

-- f of the first two, of the next two, and so on
unfoldable pub by_twos : {X : Type 0} → (ℕ → ℕ → X) → List ℕ → List X
by_twos f [] = []
by_twos f (a ∷ []) = []
by_twos f (a ∷ b ∷ rest) = f a b ∷ by_twos f rest

-- the value of a digit: 0 to 9, a to f
abbrev pub hex_digit : ℕ → Option ℕ
hex_digit c = cond (is_in_range 48 57 c) (Some (c - 48)) (cond (is_in_range 97 102 c) (Some (c - 87)) None)

abbrev pub is_hex_digit : ℕ → Bool
is_hex_digit c = is_some (hex_digit c)

-- the byte that two digits stand for, the higher one first
abbrev pub hex_byte : ℕ → ℕ → ℕ
hex_byte high low = unwrap_or (hex_digit high) 0 * 16 + unwrap_or (hex_digit low) 0

-- digits only, an even number of them, at least two
abbrev pub is_hex : List ℕ → Bool
is_hex text = nat_lt 0 (length text) && (length text % 2 == 0 && every is_hex_digit text)

-- the bytes that a text stands for, if any; `-` stands for no bytes
unfoldable pub hex_bytes : List ℕ → Option (List ℕ)
hex_bytes text = cond (bytes_eq text (codes "-")) (Some []) (cond (is_hex text) (Some (by_twos hex_byte text)) None)

-- two digits for each byte
unfoldable pub hex_digits : List ℕ → List ℕ
hex_digits [] = []
hex_digits (b ∷ bytes) = digit_char (b / 16) ∷ digit_char (b % 16) ∷ hex_digits bytes

-- the text of bytes
unfoldable pub hex_text : List ℕ → List ℕ
hex_text [] = codes "-"
hex_text (b ∷ bytes) = hex_digits (b ∷ bytes)
