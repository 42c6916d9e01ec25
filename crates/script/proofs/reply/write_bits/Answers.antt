use Rattle.std.proofs.Common.{◌≡◌, sym, ap, subst, ◌∙◌, arith, rules}
use Rattle.std.specs.Str.{IsAscii}
use Rattle.std.proofs.lemmas.List.{take_all}
use Rattle.script.specs.Replies.{bit_text}
use Rattle.script.proofs.Bits.{bit_more, bits_ascii}
use Rattle.script.proofs.reply.write_bits.Goals as goal

pub loop-i-preserved : goal.loop-i-preserved
loop-i-preserved c = bit_more c.args.bits.now c.loop-i.text c.loop-i.i _ (omega arith) (omega arith) (search rules) c.loop-i.invariant

pub returns-clause-text : goal.returns-clause-text
returns-clause-text c =
    sym (take_all c.loop-i.i c.loop-i.text (omega arith)) ∙ c.loop-i.invariant ∙ ap bit_text (take_all c.loop-i.i c.args.bits.now (omega arith))

pub returns-clause-ascii : goal.returns-clause-ascii
returns-clause-ascii c =
    let whole : c.loop-i.text ≡ bit_text c.args.bits.now =
    sym (take_all c.loop-i.i c.loop-i.text (omega arith)) ∙ c.loop-i.invariant ∙ ap bit_text (take_all c.loop-i.i c.args.bits.now (omega arith)) in
    subst IsAscii (sym whole) (bits_ascii c.args.bits.now)
