use Rattle.std.proofs.Common.{map, length, pos, sym, ◌∙◌, arith}
use Rattle.std.specs.List.{range_with_len}
use Rattle.std.proofs.lemmas.List.FromFn.{get_or-map-range_with_len, length-map-range_with_len}
use Rattle.ring.specs.Kinds.{bit_value}
use Rattle.scheme.specs.Hashes.{hash_bit}
use Rattle.key.proofs.Copies.{read_more, read_all}
use Rattle.signing.proofs.Parities.{hash_bit_is}
use Rattle.signing.proofs.bits.hash_bits.Goals as goal

pub loop-i-preserved : goal.loop-i-preserved
loop-i-preserved c =
    let hash = c.args.hash.now in
    let n = length c.args.bits.now in
    let size = length-map-range_with_len (hash_bit hash) c.args.from n in
    read_more (λ b. pos (bit_value b)) c.loop-i.bits (map (hash_bit hash) (range_with_len c.args.from n)) c.loop-i.i _ (pos 0) (omega arith) (omega (arith, size))
    (hash_bit_is hash _ c.hash_bit.result c.hash_bit.ensures ∙ sym (get_or-map-range_with_len (hash_bit hash) c.args.from n c.loop-i.i _ (pos 0) (omega arith) (omega arith))) c.loop-i.invariant

pub returns : goal.returns
returns c =
    let hash = c.args.hash.now in
    let n = length c.args.bits.now in
    let size = length-map-range_with_len (hash_bit hash) c.args.from n in
    read_all (λ b. pos (bit_value b)) c.loop-i.bits (map (hash_bit hash) (range_with_len c.args.from n)) c.loop-i.i (omega arith) (omega (arith, size)) c.loop-i.invariant
