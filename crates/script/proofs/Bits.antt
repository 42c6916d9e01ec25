-- The bits of a target as text.
use Rattle.std.proofs.Common.{◌≡◌, ℕ, ◌+◌, ◌<◌, List, [], ◌∷◌, length, get_or, set, take, sym, ◌∙◌, arith}
use Rattle.std.specs.Str.{IsAscii}
use Rattle.std.proofs.lemmas.Bool.Decides.{nat_tests}
use Rattle.std.proofs.lemmas.List.{map_more, take_more_set}
use Rattle.std.proofs.lemmas.Str.Ascii.{IsAscii-nil, IsAscii-cons}
use Rattle.script.specs.Replies.{bit_char, bit_text}

-- a bit more, written over a text
pub bit_more : (bits text : List ℕ) (i x : ℕ) → i < length text → i < length bits → x ≡ bit_char (get_or bits i 0)
    → take i text ≡ bit_text (take i bits) → take (i + 1) (set text i x) ≡ bit_text (take (i + 1) bits)
bit_more bits text i x h k e inv = take_more_set text i x h ∙ rw (inv, e) (sym (map_more bit_char bits i 0 k))

bit_small : (b : ℕ) → bit_char b < 128
bit_small b = grind (arith, nat_tests)

pub bits_ascii : (bits : List ℕ) → IsAscii (bit_text bits)
bits_ascii [] = IsAscii-nil
bits_ascii (b ∷ bits) = IsAscii-cons (bit_char b) (bit_text bits) (bit_small b) (bits_ascii bits)
