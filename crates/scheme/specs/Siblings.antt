-- The keys that have the form of a given key, numbered from 0 to 4n − 1. Assumes nothing.
use Rattle.std.specs.Prelude.{ℕ, ◌-◌, ◌*◌, cond, nat_lt}
use Rattle.ring.specs.Elements.{negative}
use Rattle.scheme.specs.Keys.{Basis}
use Rattle.scheme.specs.Powers.{powered}

-- the first row of B times X^j, the second times X^(2n − j)
unfoldable pub straight : ℕ → ℕ → Basis → Basis
straight n j b = record {
  f = powered j b.f;
  F = powered j b.F;
  g = powered (2 * n - j) b.g;
  G = powered (2 * n - j) b.G;
}

-- the new first row is X^k times the old second, the new second −X^(2n − k) times the old first
unfoldable pub crosswise : ℕ → ℕ → Basis → Basis
crosswise n k b = record {
  f = powered k b.g;
  F = powered k b.G;
  g = negative (powered (2 * n - k) b.f);
  G = negative (powered (2 * n - k) b.F);
}

-- key j of the form that b has, for j below 4n
unfoldable pub sibling : ℕ → ℕ → Basis → Basis
sibling n j b = cond (nat_lt j (2 * n)) (straight n j b) (crosswise n (j - 2 * n) b)
