use Rattle.ring.proofs.Bits.{bit_times}
use Rattle.ring.proofs.kind.BitCoefficient.times.Goals as goal

pub returns : goal.returns
returns c = bit_times c.args.self.0 c.args.other.0
