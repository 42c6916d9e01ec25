-- A sample modulo 2 against bits.
use Rattle.std.proofs.Common.{◌≡◌, ℕ, Bool, true, false, cond, ◌&&◌, eqb, List, [], ◌∷◌, map, length, ℤ, sym, refl, ap, ◌∙◌, arith}
use mathlib.Core.Bool.{beq}
use Rattle.std.specs.List.{list_all, zip}
use Rattle.std.specs.Str.{bytes_eq}
use Rattle.std.proofs.lemmas.List.{take-append-drop}
use Rattle.ring.specs.Kinds.{rest, bit_value}
use Rattle.ring.specs.declared.kind.Bit.{Bit}
use Rattle.scheme.specs.Pairs.{pair_from, numbers_of, parities}

-- two bits are the same where their numbers are
same_bits : (p q : Bool) → beq p q ≡ eqb (cond p 1 0) (cond q 1 0)
same_bits true true = refl
same_bits true false = refl
same_bits false true = refl
same_bits false false = refl

pub parity_agrees : (p q : Bit) (m : ℕ) → bit_value p ≡ m → beq p.0 q.0 ≡ eqb m (bit_value q)
parity_agrees p q m e = same_bits p.0 q.0 ∙ ap (λ t. eqb t (bit_value q)) e

-- pair by pair
pub agree_all : (xs : List ℤ) (bits : List Bit) → length bits ≡ length xs
    → list_all (λ p. eqb (rest 2 p.0) (bit_value p.1)) (zip xs bits) ≡ bytes_eq (map (rest 2) xs) (map bit_value bits)
agree_all [] [] h = refl
agree_all [] (b ∷ bits) h = absurd (omega arith)
agree_all (x ∷ xs) [] h = absurd (omega arith)
agree_all (x ∷ xs) (b ∷ bits) h = ap (λ t. eqb (rest 2 x) (bit_value b) && t) (agree_all xs bits (omega arith))

pub parities_are : (n : ℕ) (xs : List ℤ) → map (rest 2) xs ≡ parities (pair_from n xs)
unfolding parities numbers_of pair_from
parities_are n xs = ap (map (rest 2)) (sym (take-append-drop n xs))
