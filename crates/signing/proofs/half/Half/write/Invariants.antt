use Rattle.std.proofs.Common.{◌≡◌, take}
use Rattle.signing.specs.Rows.{half_from}
use Rattle.signing.proofs.half.Half.write.Given as goal

abbrev pub invariant-loop-k : goal.invariant-loop-k
invariant-loop-k l = take l.k l.area ≡ take l.k (half_from l.self.hash.now l.self.from l.self.changed l.row)
