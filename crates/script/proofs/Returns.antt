-- The text of bytes stands for those bytes.
use Rattle.std.proofs.Common.{◌≡◌, ℕ, suc, ◌+◌, ◌*◌, ◌/◌, ◌%◌, ◌<◌, ◌≤◌, true, List, [], ◌∷◌, length, get_or, Some, refl, ap, ◌∙◌, inl, inr, arith}
use Rattle.std.specs.Char.{digit_char}
use Rattle.std.specs.Str.{IsAscii}
use Rattle.std.proofs.lemmas.Str.Ascii.{IsAscii-nil, IsAscii-cons}
use Rattle.std.proofs.lemmas.Bool.{cases_lt, lt-ltb, le-ltb}
use Rattle.std.proofs.lemmas.Bool.Decides.{nat_tests}
use Rattle.script.specs.Hexadecimal.{every, by_twos, hex_digit, is_hex_digit, hex_byte, is_hex, hex_bytes, hex_digits, hex_text}
use Rattle.script.proofs.Texts.{bytes_some}

low_back : (d : ℕ) → d < 10 → hex_digit (48 + d) ≡ Some d
low_back d h = grind (arith, nat_tests)

high_back : (d : ℕ) → 10 ≤ d → d < 16 → hex_digit (87 + d) ≡ Some d
high_back d g h = grind (arith, nat_tests)

digit_back : (d : ℕ) → d < 16 → hex_digit (digit_char d) ≡ Some d
digit_back d h =
    elim (cases_lt d 10) [ inl l ↦ rw (lt-ltb d 10 l) (low_back d l) | inr g ↦ rw (le-ltb d 10 g) (high_back d g h) ]

byte_back : (b : ℕ) → b < 256 → hex_byte (digit_char (b / 16)) (digit_char (b % 16)) ≡ b
byte_back b h = rw (digit_back (b / 16) (omega arith), digit_back (b % 16) (omega arith)) (omega arith)

-- bytes are below 256
abbrev pub Small : List ℕ → Type 0
Small bytes = (i : ℕ) → get_or bytes i 0 < 256

twos_back : (bytes : List ℕ) → Small bytes → by_twos hex_byte (hex_digits bytes) ≡ bytes
unfolding by_twos hex_digits
twos_back [] h = refl
twos_back (b ∷ bytes) h = rw (byte_back b (h 0), twos_back bytes (λ i. h (suc i)))

all_digits : (bytes : List ℕ) → Small bytes → every is_hex_digit (hex_digits bytes) ≡ true
unfolding every hex_digits
all_digits [] h = refl
all_digits (b ∷ bytes) h =
    let small : b < 256 = h 0 in
    rw (digit_back (b / 16) (omega arith), digit_back (b % 16) (omega arith)) (all_digits bytes (λ i. h (suc i)))

digit_small : (d : ℕ) → d < 16 → digit_char d < 128
digit_small d h =
    elim (cases_lt d 10) [ inl l ↦ rw (lt-ltb d 10 l) (omega arith) | inr g ↦ rw (le-ltb d 10 g) (omega arith) ]

pub digits_ascii : (bytes : List ℕ) → Small bytes → IsAscii (hex_digits bytes)
unfolding hex_digits
digits_ascii [] h = IsAscii-nil
digits_ascii (b ∷ bytes) h =
    let small : b < 256 = h 0 in
    IsAscii-cons (digit_char (b / 16)) (digit_char (b % 16) ∷ hex_digits bytes) (digit_small (b / 16) (omega arith))
    (IsAscii-cons (digit_char (b % 16)) (hex_digits bytes) (digit_small (b % 16) (omega arith)) (digits_ascii bytes (λ i. h (suc i))))

two_each : (bytes : List ℕ) → length (hex_digits bytes) ≡ 2 * length bytes
unfolding hex_digits
two_each [] = refl
two_each (b ∷ bytes) = omega (arith, two_each bytes)

pub text_back : (bytes : List ℕ) → Small bytes → hex_bytes (hex_text bytes) ≡ Some bytes
unfolding hex_bytes hex_text
text_back [] h = refl
text_back (b ∷ bytes) h =
    let long = two_each (b ∷ bytes) in
    let digits = all_digits (b ∷ bytes) h in
    let hex : is_hex (hex_digits (b ∷ bytes)) ≡ true = grind (arith, nat_tests) in
    bytes_some (hex_digits (b ∷ bytes)) (λ e. omega (arith, ap length e)) hex ∙ ap Some (twos_back (b ∷ bytes) h)
