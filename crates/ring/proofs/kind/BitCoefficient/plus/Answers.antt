use Rattle.ring.proofs.Bits.{bit_plus}
use Rattle.ring.proofs.kind.BitCoefficient.plus.Goals as goal

pub returns : goal.returns
returns c = bit_plus c.args.self.0 c.args.other.0
