-- X^k times an element, for every k. Assumes nothing.
use Rattle.std.specs.Prelude.{ℕ, zero, suc, List, ℤ}
use Rattle.ring.specs.Elements.{turned}

-- X^k · a, one turn at a time
unfoldable pub powered : ℕ → List ℤ → List ℤ
powered zero a = a
powered (suc k) a = turned 1 (powered k a)
