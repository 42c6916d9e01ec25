use Rattle.std.proofs.Common.{rules}
use Rattle.std.proofs.lemmas.Slice.{overwrites}
use Rattle.slip.specs.Writes.{written}
use Rattle.slip.proofs.numbers.put.Goals as goal

pub returns : goal.returns
unfolding written
returns c = search (rules, overwrites)
