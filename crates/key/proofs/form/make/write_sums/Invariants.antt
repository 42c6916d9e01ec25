use Rattle.std.proofs.Common.{◌≡◌, take}
use Rattle.key.specs.Making.{starred}
use Rattle.key.proofs.form.make.write_sums.Given as goal

abbrev pub invariant-loop-k : goal.invariant-loop-k
invariant-loop-k l = take l.k l.numbers ≡ take l.k (starred l.top.a.now l.top.b.now l.bottom.a.now l.bottom.b.now)
