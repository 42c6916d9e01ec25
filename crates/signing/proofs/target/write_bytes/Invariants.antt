use Rattle.std.proofs.Common.{◌≡◌, map, take}
use Rattle.ring.specs.Kinds.{bit_value}
use Rattle.signing.proofs.target.write_bytes.Given as goal

abbrev pub invariant-loop-i : goal.invariant-loop-i
invariant-loop-i l = take l.i l.area ≡ take l.i (map bit_value l.bits)
