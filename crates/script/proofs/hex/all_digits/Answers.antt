use Rattle.std.proofs.Common.{is_some, sym, ap, ◌∙◌, rules, arith}
use Rattle.std.proofs.lemmas.List.{take_all}
use Rattle.script.specs.Hexadecimal.{every, is_hex_digit}
use Rattle.script.proofs.Pairs.{every_next}
use Rattle.script.proofs.hex.all_digits.Goals as goal

pub loop-c-init : goal.loop-c-init
unfolding every
loop-c-init c = search rules

pub loop-c-preserved : goal.loop-c-preserved
loop-c-preserved c = rw (c.loop-c.invariant) (search rules) ∙ sym (every_next is_hex_digit c.args.text.now c.loop-c.c-index c.loop-c-test.true)

pub returns : goal.returns
returns c = c.loop-c.invariant ∙ ap (every is_hex_digit) (take_all c.loop-c.c-index c.args.text.now c.loop-c-test.false)
