use Rattle.std.proofs.Common.{◌≡◌, map, get_or, take, pos}
use Rattle.std.specs.List.{range_with_len}
use Rattle.ring.specs.Elements.{sum}
use Rattle.ring.specs.Kinds.{rest, values}
use Rattle.ring.proofs.linear.sum.Given as goal

abbrev pub invariant-loop-i : goal.invariant-loop-i
invariant-loop-i g l =
    let kind = g.K.Coefficient in
    map kind.residue (take l.i l.out) ≡ map (rest kind.modulus) (map (λ i. get_or (sum (values kind.residue l.a) (values kind.residue l.b)) i (pos 0)) (range_with_len 0 l.i))
