use Rattle.std.proofs.Common.{◌≡◌, ◌*◌, ◌≤◌, take, nat_abs}
use Rattle.ring.specs.Elements.{total}
use Rattle.scheme.specs.Keys.{key_limit}
use Rattle.key.proofs.key.words.odd_sum.Given as goal

abbrev pub invariant-loop-x : goal.invariant-loop-x
invariant-loop-x l = (l.sum ≡ total (take l.x-index l.numbers)) × (nat_abs l.sum ≤ key_limit * l.x-index)
