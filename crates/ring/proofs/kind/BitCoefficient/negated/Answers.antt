use Rattle.ring.proofs.Bits.{bit_negated}
use Rattle.ring.proofs.kind.BitCoefficient.negated.Goals as goal

pub returns : goal.returns
returns c = bit_negated c.args.self.0
