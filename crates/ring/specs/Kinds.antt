-- What a number of a kind means: its residue modulo the kind's modulus. Assumes nothing.
use Rattle.std.specs.Prelude.{ℕ, ◌^◌, cond, List, map, ℤ, pos, unsigned_abs}
use Rattle.std.specs.Int.{int_rem_euclid}
use Rattle.ring.specs.declared.kind.Bit.{Bit}

-- the remainder of z by m, from 0 to m − 1
unfoldable pub rest : ℕ → ℤ → ℕ
rest m z = unsigned_abs (int_rem_euclid z (pos m))

-- the residues of a list of numbers, as integers
abbrev pub values : {X : Type 0} → (X → ℕ) → List X → List ℤ
values residue xs = map (λ x. pos (residue x)) xs

abbrev pub bit_value : Bit → ℕ
bit_value b = cond b.0 1 0

-- words: whole numbers modulo 2^64, read as signed
abbrev pub word_value : ℤ → ℕ
word_value z = rest (2 ^ 64) z
