use Rattle.std.proofs.Common.{◌≡◌, map, take}
use Rattle.ring.specs.Kinds.{rest, values, bit_value}
use Rattle.signing.specs.Rows.{joined}
use Rattle.signing.proofs.target.row_bits.Given as goal

abbrev pub invariant-loop-k : goal.invariant-loop-k
invariant-loop-k l = map bit_value (take l.k l.bits) ≡ take l.k (map (rest 2) (joined l.a l.b (values bit_value l.x) (values bit_value l.y)))
