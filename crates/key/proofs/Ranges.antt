-- Numbers within a limit, as a record and as a list of facts.
use Rattle.std.proofs.Common.{◌≡◌, ℕ, true, List, [], ◌∷◌, ℤ, nat_abs, refl}
use Rattle.std.specs.List.{AllByRecursion}
use Rattle.std.proofs.lemmas.Bool.{le-leb, leb-true, and_parts, and_from}
use Rattle.ring.proofs.Sizes.{Bounded}
use Rattle.scheme.specs.Keys.{within, Within, all_within}

pub bounded_from : (m : ℕ) (xs : List ℤ) → all_within m xs ≡ true → Bounded m xs
bounded_from m [] h = tt
bounded_from m (x ∷ xs) h = let p = and_parts (within m x) (all_within m xs) h in (leb-true (nat_abs x) m p.0, bounded_from m xs p.1)

pub bounded_all : (m : ℕ) (xs : List ℤ) → Bounded m xs → all_within m xs ≡ true
bounded_all m [] h = refl
bounded_all m (x ∷ xs) h = and_from (within m x) (all_within m xs) (le-leb (nat_abs x) m h.0) (bounded_all m xs h.1)

pub all_from : (m : ℕ) (xs : List ℤ) → all_within m xs ≡ true → AllByRecursion (Within m) xs
all_from m [] h = tt
all_from m (x ∷ xs) h = let p = and_parts (within m x) (all_within m xs) h in (p.0, all_from m xs p.1)
