use Rattle.std.proofs.Common.{map, get_or, pos, sym, ap, ◌∙◌, arith, w8, SFits, rules}
use Rattle.std.proofs.lemmas.List.{get_or-map, length-map}
use Rattle.std.proofs.lemmas.Int.{to_z-of_z}
use Rattle.ring.specs.Kinds.{rest, bit_value}
use Rattle.key.proofs.Copies.{read_more}
use Rattle.signing.proofs.bits.element_bits.Goals as goal

pub loop-i-preserved : goal.loop-i-preserved
loop-i-preserved c =
    let numbers = c.args.numbers.now in
    let long = length-map numbers (rest 2) in
    let fits : SFits w8 (get_or numbers c.loop-i.i (pos 0)) = search rules in
    read_more bit_value c.loop-i.bits (map (rest 2) numbers) c.loop-i.i _ 0 (omega arith) (omega (arith, long))
    (c.parity.ensures ∙ ap (rest 2) (to_z-of_z w8 (get_or numbers c.loop-i.i (pos 0)) fits) ∙ sym (get_or-map (rest 2) numbers c.loop-i.i (pos 0) 0 (omega arith))) c.loop-i.invariant
