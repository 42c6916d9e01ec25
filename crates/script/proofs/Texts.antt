-- Hexadecimal text: which bytes a text stands for, and the text of bytes, by cases.
use Rattle.std.proofs.Common.{◌≡◌, ℕ, ◌+◌, ◌-◌, ◌*◌, ◌/◌, ◌%◌, ◌^◌, ◌<◌, Bool, true, false, eqb, Decides, List, [], ◌∷◌, ◌++◌, length, get_or, set, take, Some, None, codes, sym, refl, ap, ◌∙◌, inl, inr, append_assoc, arith}
use Rattle.std.specs.Char.{digit_char}
use Rattle.std.specs.Str.{bytes_eq}
use lib.Pointwise.{pointwise}
use Rattle.std.proofs.lemmas.Bool.Decides.{Decides-eqb}
use Rattle.std.proofs.lemmas.Slice.Eq.{bytes_eq-Decides, slice_eq-Decides}
use Rattle.std.proofs.lemmas.List.{length-set, take_more, take_more_set}
use Rattle.std.proofs.lemmas.Bool.{cases_Bool}
use Rattle.script.specs.Hexadecimal.{by_twos, is_hex, hex_byte, hex_bytes, hex_digits, hex_text}

-- texts that differ compare as different
pub differ : (xs ys : List ℕ) → (xs ≡ ys → ⊥) → bytes_eq xs ys ≡ false
differ xs ys n = elim (cases_Bool (bytes_eq xs ys)) [ inl e ↦ absurd (n ((bytes_eq-Decides xs ys).0 e)) | inr e ↦ e ]

-- the comparison with `-`
pub is_dash : (text dash : List ℕ) (r : Bool) → r ≡ pointwise eqb text dash → dash ≡ 45 ∷ [] → Decides r (text ≡ 45 ∷ [])
is_dash text dash r e d = slice_eq-Decides Decides-eqb text (45 ∷ []) r (e ∙ ap (pointwise eqb text) d)

module _ (text : List ℕ) where
  pub bytes_dash : text ≡ 45 ∷ [] → hex_bytes text ≡ Some []
  unfolding hex_bytes
  bytes_dash e = ap hex_bytes e

  pub bytes_none : (text ≡ 45 ∷ [] → ⊥) → is_hex text ≡ false → hex_bytes text ≡ None
  unfolding hex_bytes
  bytes_none n e = rw (differ text (codes "-") n, e)

  pub bytes_some : (text ≡ 45 ∷ [] → ⊥) → is_hex text ≡ true → hex_bytes text ≡ Some (by_twos hex_byte text)
  unfolding hex_bytes
  bytes_some n e = rw (differ text (codes "-") n, e)

pub digits-append : (xs ys : List ℕ) → hex_digits (xs ++ ys) ≡ hex_digits xs ++ hex_digits ys
unfolding hex_digits
digits-append [] ys = refl
digits-append (x ∷ xs) ys = ap (λ (t : List ℕ). digit_char (x / 16) ∷ digit_char (x % 16) ∷ t) (digits-append xs ys)

pub digits_none : hex_digits [] ≡ []
unfolding hex_digits
digits_none = refl

-- two digits more, written over a text
pub two_more : (bytes text : List ℕ) (i x y : ℕ) → length text ≡ 2 * length bytes → i < length bytes → x ≡ digit_char (get_or bytes i 0 / 16) → y ≡ digit_char (get_or bytes i 0 % 16)
    → take (2 * i) text ≡ hex_digits (take i bytes) → take (2 * (i + 1)) (set (set text (2 * i) x) (2 * i + 1) y) ≡ hex_digits (take (i + 1) bytes)
unfolding hex_digits
two_more bytes text i x y long h high low inv =
    let first = take_more_set text (2 * i) x (omega (arith, long)) in
    let size = length-set text (2 * i) x in
    let second = take_more_set (set text (2 * i) x) (2 * i + 1) y (omega (arith, long, size)) in
    let place : 2 * (i + 1) ≡ 2 * i + 1 + 1 = omega arith in
    ap (λ k. take k (set (set text (2 * i) x) (2 * i + 1) y)) place
    ∙ second
    ∙ ap (λ (t : List ℕ). t ++ (y ∷ [])) (first ∙ ap (λ (t : List ℕ). t ++ (x ∷ [])) inv)
    ∙ append_assoc (hex_digits (take i bytes)) (x ∷ []) (y ∷ [])
    ∙ rw (high, low) refl
    ∙ sym (ap hex_digits (take_more bytes i 0 h) ∙ digits-append (take i bytes) (get_or bytes i 0 ∷ []))

pub text_none : (bytes : List ℕ) → length bytes ≡ 0 → hex_text bytes ≡ 45 ∷ []
unfolding hex_text
text_none [] h = refl
text_none (b ∷ bytes) h = absurd (omega arith)

pub text_some : (bytes : List ℕ) → (length bytes ≡ 0 → ⊥) → hex_text bytes ≡ hex_digits bytes
unfolding hex_text
text_some [] h = absurd (h refl)
text_some (b ∷ bytes) h = refl
