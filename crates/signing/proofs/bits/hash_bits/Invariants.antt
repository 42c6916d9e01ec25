use Rattle.std.proofs.Common.{◌≡◌, map, length, take}
use Rattle.std.specs.List.{range_with_len}
use Rattle.ring.specs.Kinds.{values, bit_value}
use Rattle.scheme.specs.Hashes.{hash_bit}
use Rattle.signing.proofs.bits.hash_bits.Given as goal

abbrev pub invariant-loop-i : goal.invariant-loop-i
invariant-loop-i l = values bit_value (take l.i l.bits) ≡ take l.i (map (hash_bit l.hash) (range_with_len l.from (length l.initial.bits)))
