use Rattle.std.proofs.lemmas.Int.{wrapping_mul_is}
use Rattle.std.proofs.Common.{w64}
use Rattle.ring.proofs.Words.{word_times}
use Rattle.ring.proofs.kind.I64Coefficient.times.Goals as goal

pub returns : goal.returns
returns c = rw (wrapping_mul_is w64 c.args.self c.args.other c.ranges.self c.ranges.other) (word_times c.args.self c.args.other)
