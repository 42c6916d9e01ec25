use Rattle.std.proofs.Common.{◌≡◌, map, take}
use Rattle.ring.specs.Elements.{turned}
use Rattle.ring.specs.Kinds.{rest, values}
use Rattle.cases.proofs.elements.turn.Given as goal

abbrev pub invariant-loop-i : goal.invariant-loop-i
invariant-loop-i g l = map g.K.Coefficient.residue (take l.i l.out) ≡ map (rest g.K.Coefficient.modulus) (take l.i (turned l.k (values g.K.Coefficient.residue l.a)))
