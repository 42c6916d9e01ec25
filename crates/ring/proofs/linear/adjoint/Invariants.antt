use Rattle.std.proofs.Common.{◌≡◌, map, get_or, take, pos}
use Rattle.std.specs.List.{range_with_len}
use Rattle.ring.specs.Elements.{adjoint}
use Rattle.ring.specs.Kinds.{rest, values}
use Rattle.ring.proofs.linear.adjoint.Given as goal

abbrev pub invariant-loop-i : goal.invariant-loop-i
invariant-loop-i g l =
    let kind = g.K.Coefficient in
    map kind.residue (take l.i l.out) ≡ map (rest kind.modulus) (map (λ i. get_or (adjoint (values kind.residue l.a)) i (pos 0)) (range_with_len 0 l.i))
