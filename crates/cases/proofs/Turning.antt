-- A strip that is written number by number.
use Rattle.std.proofs.Common.{◌≡◌, ℕ, ◌+◌, ◌<◌, ◌≤◌, List, map, length, set, take, ℤ, pos, slice_index_or, arith}
use Rattle.std.proofs.lemmas.Grind.{common_steps}
use Rattle.std.proofs.lemmas.List.{map_more}
use Rattle.ring.specs.Elements.{turned}
use Rattle.ring.specs.Kinds.{rest}

pub turned_long : (k : ℕ) (a : List ℤ) → length (turned k a) ≡ length a
unfolding turned
turned_long k a = grind (arith, common_steps)

module _ {X : Type 0} (residue : X → ℕ) (m : ℕ) (out : List X) (wanted : List ℤ) (i : ℕ) where
  pub turn_more : (x : X) → i < length out → i < length wanted → map residue (take i out) ≡ map (rest m) (take i wanted) → residue x ≡ rest m (slice_index_or wanted i (pos 0))
      → map residue (take (i + 1) (set out i x)) ≡ map (rest m) (take (i + 1) wanted)
  turn_more x h k e r = grind (arith, common_steps, map_more (rest m) wanted i (pos 0) k)

  pub turn_all : length out ≤ i → length wanted ≤ i → map residue (take i out) ≡ map (rest m) (take i wanted) → map residue out ≡ map (rest m) wanted
  turn_all h k e = grind (arith, common_steps)
