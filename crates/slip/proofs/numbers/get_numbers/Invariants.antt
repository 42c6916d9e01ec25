use Rattle.std.proofs.Common.{◌≡◌, ◌*◌, take}
use Rattle.slip.proofs.numbers.get_numbers.Given as goal

abbrev pub invariant-loop-i : goal.invariant-loop-i
invariant-loop-i g l = take l.i l.numbers ≡ g.N.SlipNumber.numbers (take (g.row.WIDTH * l.i) l.bytes)
