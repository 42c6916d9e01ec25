-- The resting key of class 1. Assumes nothing.
use Rattle.std.specs.Prelude.{pos}
use Rattle.ring.specs.Elements.{constant}
use Rattle.scheme.specs.Keys.{Basis, basis}

-- f = 1, g = 1, F = 0, G = 1
unfoldable pub resting_basis : Basis
resting_basis = basis (constant 4 (pos 1)) (constant 4 (pos 1)) (constant 4 (pos 0)) (constant 4 (pos 1))
