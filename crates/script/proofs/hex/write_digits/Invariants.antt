use Rattle.std.proofs.Common.{◌≡◌, ◌*◌, take}
use Rattle.script.specs.Hexadecimal.{hex_digits}
use Rattle.script.proofs.hex.write_digits.Given as goal

abbrev pub invariant-loop-i : goal.invariant-loop-i
invariant-loop-i l = take (2 * l.i) l.text ≡ hex_digits (take l.i l.bytes)
