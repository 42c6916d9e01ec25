use Rattle.std.proofs.Common.{arith}
use Rattle.ring.proofs.Entries.{adjoint_read_first, adjoint_read_other}
use Rattle.ring.proofs.linear.adjoint_at.Goals as goal

pub returns-then-i-eq0 : goal.returns-then-i-eq0
returns-then-i-eq0 g c =
    adjoint_read_first g.K.Coefficient.modulus g.K.Coefficient.residue c.args.a.now c.args.i c.index-a-0.result (omega arith) (omega arith)
    c.index-a-0.is (g.met.K.Coefficient.below c.index-a-0.result)

pub returns-else-i-eq0 : goal.returns-else-i-eq0
returns-else-i-eq0 g c =
    adjoint_read_other g.K.Coefficient.modulus g.K.Coefficient.residue c.args.a.now c.args.i c.index-a-a.result _ (omega arith) (omega arith)
    c.index-a-a.is c.negated.ensures
