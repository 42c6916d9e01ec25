use Rattle.std.proofs.Common.{rules}
use Rattle.std.proofs.lemmas.Slice.{overwrites}
use Rattle.slip.specs.Writes.{written}
use Rattle.session.proofs.log.write_entry.Goals as goal

pub returns : goal.returns
unfolding written
returns c = search (rules, overwrites)
