-- Targets and signatures of a key. Assumes nothing.
use Rattle.std.specs.Prelude.{ℕ, Bool, cond, List, unsigned_abs}
use Rattle.scheme.specs.Keys.{Basis}
use Rattle.scheme.specs.Matrices.{Pair, applied, basis_of, inverse_of, squared_length}
use Rattle.scheme.specs.Pairs.{opposite, half_less, parities, is_negative, leader}

-- t = B·h modulo 2, as 2n numbers 0 or 1
unfoldable pub target_of : Basis → Pair → List ℕ
target_of b h = parities (applied (basis_of b) h)

-- v0 = G·x0 − F·x1 and v1 = f·x1 − g·x0
unfoldable pub source_of : Basis → Pair → Pair
source_of b x = applied (inverse_of b) x

-- the sign rule: v changes sign where the first nonzero coefficient of v1 is negative
unfoldable pub changes : Pair → Bool
changes v = is_negative (leader v.second)

unfoldable pub oriented : Pair → Pair
oriented v = cond (changes v) (opposite v) v

-- s = (h − v) / 2
unfoldable pub signature_of : Basis → Pair → Pair → Pair
signature_of b h x = half_less h (oriented (source_of b x))

-- the squared length of a sample, which is not negative
unfoldable pub length_of : Pair → ℕ
length_of x = unsigned_abs (squared_length x)
