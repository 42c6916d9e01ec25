use Rattle.std.proofs.Common.{◌≡◌, take}
use Rattle.verify.specs.Images.{half_point}
use Rattle.verify.proofs.point.write_point.Given as goal

abbrev pub invariant-loop-i : goal.invariant-loop-i
invariant-loop-i l = take l.i l.words ≡ take l.i (half_point l.start l.hash l.numbers)
