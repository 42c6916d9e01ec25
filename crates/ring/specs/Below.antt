-- Residues are below their modulus, and those of 0 and 1: what the laws of words rest on.
use Rattle.std.specs.Prelude.{◌≡◌, ℕ, ◌^◌, ◌<◌, ℤ, pos, negsuc, refl}
use Rattle.std.proofs.Common.{mod-lt, arith, lit<}
use Rattle.ring.specs.Kinds.{rest, word_value}

pub rest_below : (m : ℕ) (z : ℤ) → 0 < m → rest m z < m
unfolding rest
rest_below m (pos a) h = mod-lt a h
rest_below m (negsuc a) h = omega (arith, mod-lt a h)

pub word_positive : 0 < 2 ^ 64
word_positive = lit< tt

pub word_nought : word_value (pos 0) ≡ 0
unfolding rest
word_nought = refl

pub word_unity : word_value (pos 1) ≡ 1
unfolding rest
word_unity = refl
