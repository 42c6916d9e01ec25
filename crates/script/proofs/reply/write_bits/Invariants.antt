use Rattle.std.proofs.Common.{◌≡◌, take}
use Rattle.script.specs.Replies.{bit_text}
use Rattle.script.proofs.reply.write_bits.Given as goal

abbrev pub invariant-loop-i : goal.invariant-loop-i
invariant-loop-i l = take l.i l.text ≡ bit_text (take l.i l.bits)
