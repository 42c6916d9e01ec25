use Rattle.std.proofs.Common.{rules}
use Rattle.slip.specs.Numbers.{split16, split32}
use Rattle.slip.specs.Writes.{trailer_of}
use Rattle.slip.proofs.writer.put_trailer.Goals as goal

pub returns : goal.returns
unfolding trailer_of split16 split32
returns c = search rules
