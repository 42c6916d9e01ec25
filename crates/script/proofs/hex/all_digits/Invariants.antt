use Rattle.std.proofs.Common.{◌≡◌, take}
use Rattle.script.specs.Hexadecimal.{every, is_hex_digit}
use Rattle.script.proofs.hex.all_digits.Given as goal

abbrev pub invariant-loop-c : goal.invariant-loop-c
invariant-loop-c l = l.good ≡ every is_hex_digit (take l.c-index l.text)
