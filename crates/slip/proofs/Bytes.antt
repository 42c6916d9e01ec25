-- A number as bytes and back.
use Rattle.std.proofs.Common.{◌≡◌, ℕ, ◌^◌, ◌<◌, List, [], ◌∷◌, ◌++◌, length, get_or, ℤ, refl, ap, ◌∙◌, arith, w8, w32, SFits, to_z, of_z}
use Rattle.std.proofs.lemmas.Int.{to_z-of_z}
use Rattle.std.proofs.lemmas.Nat.{from_be_bytes-to_be_bytes_4}
use mir.Facts.{Fits-of_z}
use Rattle.slip.specs.Numbers.{split32, bytes8, bytes32, numbers8, number32, numbers32}
use Rattle.slip.specs.Slips.{at32}
pub use Rattle.slip.specs.Laws.{length_bytes8, length_bytes32, length_numbers32}

pub at32_front : (v : ℕ) (rest : List ℕ) → v < 2 ^ 32 → at32 (split32 v ++ rest) 0 ≡ v
unfolding at32 split32
at32_front v rest h = let e = from_be_bytes-to_be_bytes_4 v h in omega arith

pub back32 : (z : ℤ) → SFits w32 z → numbers32 (bytes32 (z ∷ [])) ≡ z ∷ []
unfolding bytes32 split32 number32 numbers32
back32 z f = ap (λ v. to_z w32 v ∷ []) (at32_front (of_z w32 z) [] (Fits-of_z f).fits) ∙ ap (λ y. y ∷ []) (to_z-of_z w32 z f)

pub back8 : (z : ℤ) → SFits w8 z → numbers8 (bytes8 (z ∷ [])) ≡ z ∷ []
unfolding numbers8 bytes8
back8 z f = ap (λ y. y ∷ []) (to_z-of_z w8 z f)

-- the number of one number's bytes
pub one8 : (word : List ℕ) → length word ≡ 1 → numbers8 word ≡ to_z w8 (get_or word 0 0) ∷ []
unfolding numbers8
one8 [] h = absurd (omega arith)
one8 (x ∷ []) h = refl
one8 (x ∷ y ∷ rest) h = absurd (omega arith)

pub one32 : (word : List ℕ) → length word ≡ 4 → numbers32 word ≡ to_z w32 (at32 word 0) ∷ []
unfolding numbers32 number32
one32 word h = rw h refl
