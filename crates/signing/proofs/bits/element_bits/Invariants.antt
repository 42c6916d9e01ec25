use Rattle.std.proofs.Common.{◌≡◌, map, take}
use Rattle.ring.specs.Kinds.{rest, bit_value}
use Rattle.signing.proofs.bits.element_bits.Given as goal

abbrev pub invariant-loop-i : goal.invariant-loop-i
invariant-loop-i l = map bit_value (take l.i l.bits) ≡ take l.i (map (rest 2) l.numbers)
