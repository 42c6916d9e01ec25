use Rattle.std.proofs.Common.{◌≡◌, Bool, true, false, cond, map, get_or, sym, refl, ◌∙◌, arith}
use mir.Val.{bool_byte}
use Rattle.std.proofs.lemmas.List.{get_or-map, length-map}
use Rattle.ring.specs.Kinds.{bit_value}
use Rattle.key.proofs.Copies.{copied_more}
use Rattle.signing.proofs.target.write_bytes.Goals as goal

byte_is : (b : Bool) → bool_byte b ≡ cond b 1 0
byte_is true = refl
byte_is false = refl

pub loop-i-preserved : goal.loop-i-preserved
loop-i-preserved c =
    let bits = c.args.bits.now in
    let i = c.loop-i.i in
    let long = length-map bits bit_value in
    copied_more c.loop-i.area (map bit_value bits) i _ 0 (omega arith) (omega arith)
    (c.from.ensures ∙ byte_is (get_or bits i (record { 0 = false })).0 ∙ sym (get_or-map bit_value bits i (record { 0 = false }) 0 (omega arith))) c.loop-i.invariant
