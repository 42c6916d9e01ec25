-- A word in bytes.
use Rattle.std.proofs.Common.{◌≡◌, ◌<◌, ℤ, pos, negsuc, FitsSigned, arith, w64}
use Rattle.std.specs.Int.{cast_unsigned}
use Rattle.ring.specs.Kinds.{rest, word_value}

pub word_is : (z : ℤ) → FitsSigned w64 z → cast_unsigned w64 z ≡ word_value z
unfolding rest
word_is (pos a) h = let small : a < 18446744073709551616 = omega (arith, h) in omega arith
word_is (negsuc a) h = let small : a < 18446744073709551616 = omega (arith, h) in omega arith
