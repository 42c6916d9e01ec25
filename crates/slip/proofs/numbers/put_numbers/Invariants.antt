use Rattle.std.proofs.Common.{◌≡◌, take}
use Rattle.slip.specs.Writes.{written}
use Rattle.slip.proofs.numbers.put_numbers.Given as goal

abbrev pub invariant-loop-i : goal.invariant-loop-i
invariant-loop-i g l =
    (l.area ≡ written l.place (g.N.SlipNumber.bytes (take l.i l.numbers)) l.initial.area)
    × (g.N.SlipNumber.numbers (g.N.SlipNumber.bytes (take l.i l.numbers)) ≡ take l.i l.numbers)
