use Rattle.std.proofs.Common.{◌≡◌, pos, ◌+ℤ◌}
use Rattle.ring.specs.Elements.{crossed}
use Rattle.ring.specs.Kinds.{rest, values}
use Rattle.ring.proofs.products.cross.Given as goal

-- What was summed, with the pairs that are left, is the whole sum.
abbrev pub invariant-loop-x : goal.invariant-loop-x
invariant-loop-x g l =
    let k = g.K.Coefficient in
    rest k.modulus (pos (k.residue l.sum) +ℤ crossed (values k.residue l.x-iterator.a.rest.now) (values k.residue l.x-iterator.b.iter.rest.now))
    ≡ rest k.modulus (crossed (values k.residue l.a) (values k.residue l.b))
