use Rattle.std.proofs.Common.{◌≡◌, ◌*◌, sym, ap, subst, ◌∙◌, arith, rules}
use Rattle.std.specs.Str.{IsAscii}
use Rattle.std.proofs.lemmas.List.{take_all}
use Rattle.script.specs.Hexadecimal.{hex_digits}
use Rattle.script.proofs.Returns.{digits_ascii}
use Rattle.script.proofs.Texts.{digits_none, two_more}
use Rattle.script.proofs.hex.write_digits.Goals as goal

pub loop-i-init : goal.loop-i-init
loop-i-init c = rw digits_none (search rules)

pub loop-i-preserved : goal.loop-i-preserved
loop-i-preserved c = two_more c.args.bytes.now c.loop-i.text c.loop-i.i _ _ (omega arith) (omega arith) c.digit.ensures c.digit-in-loop-i.ensures c.loop-i.invariant

pub returns-clause-text : goal.returns-clause-text
returns-clause-text c =
    sym (take_all (2 * c.loop-i.i) c.loop-i.text (omega arith)) ∙ c.loop-i.invariant ∙ ap hex_digits (take_all c.loop-i.i c.args.bytes.now (omega arith))

pub returns-clause-ascii : goal.returns-clause-ascii
returns-clause-ascii c =
    let whole : c.loop-i.text ≡ hex_digits c.args.bytes.now =
    sym (take_all (2 * c.loop-i.i) c.loop-i.text (omega arith)) ∙ c.loop-i.invariant ∙ ap hex_digits (take_all c.loop-i.i c.args.bytes.now (omega arith)) in
    subst IsAscii (sym whole) (digits_ascii c.args.bytes.now (λ i. (c.type_inv.bytes i).fits))
