use Rattle.std.proofs.Common.{map, pos, sym, ◌∙◌, arith}
use Rattle.std.proofs.lemmas.List.{get_or-map, length-map}
use Rattle.ring.specs.Kinds.{rest, values, bit_value}
use Rattle.signing.specs.Rows.{joined}
use Rattle.key.proofs.Copies.{read_more, read_all}
use Rattle.signing.proofs.Joins.{length_joined, joined_bit}
use Rattle.signing.proofs.target.row_bits.Goals as goal

pub loop-k-preserved : goal.loop-k-preserved
loop-k-preserved c =
    let a = c.args.a.now in
    let b = c.args.b.now in
    let x = c.args.x.now in
    let y = c.args.y.now in
    let row = joined a b (values bit_value x) (values bit_value y) in
    let size = length_joined a b (values bit_value x) (values bit_value y) (omega arith) in
    let long = length-map row (rest 2) in
    read_more bit_value c.loop-k.bits (map (rest 2) row) c.loop-k.k _ 0 (omega arith) (omega arith)
    (joined_bit a b c.element_bits.new.bits c.element_bits-2.new.bits x y c.loop-k.k _ _ _ (omega arith) (omega arith) c.element_bits.ensures c.element_bits-2.ensures c.plus.ensures c.coefficient.ensures c.coefficient-in-loop-k.ensures
    ∙ sym (get_or-map (rest 2) row c.loop-k.k (pos 0) 0 (omega arith))) c.loop-k.invariant

pub returns : goal.returns
returns c =
    let a = c.args.a.now in
    let b = c.args.b.now in
    let row = joined a b (values bit_value c.args.x.now) (values bit_value c.args.y.now) in
    let size = length_joined a b (values bit_value c.args.x.now) (values bit_value c.args.y.now) (omega arith) in
    let long = length-map row (rest 2) in
    read_all bit_value c.loop-k.bits (map (rest 2) row) c.loop-k.k (omega arith) (omega arith) c.loop-k.invariant
