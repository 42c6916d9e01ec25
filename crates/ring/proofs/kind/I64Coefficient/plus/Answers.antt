use Rattle.std.proofs.lemmas.Int.{wrapping_add_is}
use Rattle.std.proofs.Common.{w64}
use Rattle.ring.proofs.Words.{word_plus}
use Rattle.ring.proofs.kind.I64Coefficient.plus.Goals as goal

pub returns : goal.returns
returns c = rw (wrapping_add_is w64 c.args.self c.args.other c.ranges.self c.ranges.other) (word_plus c.args.self c.args.other)
