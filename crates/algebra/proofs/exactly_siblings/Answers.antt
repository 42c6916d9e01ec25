use Rattle.algebra.proofs.Counting.{exactly_4n}
use Rattle.algebra.proofs.exactly_siblings.Goals as goal

pub returns : goal.returns
returns c = exactly_4n
