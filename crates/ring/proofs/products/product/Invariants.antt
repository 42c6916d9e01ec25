use Rattle.std.proofs.Common.{◌≡◌, map, take}
use Rattle.std.specs.List.{range_with_len}
use Rattle.ring.specs.Elements.{coefficient}
use Rattle.ring.specs.Kinds.{rest, values}
use Rattle.ring.proofs.products.product.Given as goal

abbrev pub invariant-loop-k : goal.invariant-loop-k
invariant-loop-k g l =
    let kind = g.K.Coefficient in
    map kind.residue (take l.k l.out) ≡ map (rest kind.modulus) (map (coefficient (values kind.residue l.a) (values kind.residue l.b)) (range_with_len 0 l.k))
