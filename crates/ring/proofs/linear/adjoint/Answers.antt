use Rattle.std.proofs.Common.{map, length, get_or, pos, ap, ◌∙◌, arith, rules}
use Rattle.ring.specs.Elements.{adjoint}
use Rattle.ring.specs.Kinds.{rest, values}
use Rattle.ring.proofs.Places.{self_table, length_adjoint}
use Rattle.ring.proofs.Entries.{length_values}
use Rattle.ring.proofs.Tables.{table_more, table_all}
use Rattle.ring.proofs.linear.adjoint.Goals as goal

pub loop-i-preserved : goal.loop-i-preserved
loop-i-preserved g c =
    let kind = g.K.Coefficient in
    table_more kind.modulus kind.residue (λ i. get_or (adjoint (values kind.residue c.args.a.now)) i (pos 0)) c.loop-i.out c.loop-i.i _ (omega arith) c.loop-i.invariant c.adjoint_at.ensures

pub returns : goal.returns
returns g c =
    let kind = g.K.Coefficient in
    let whole = adjoint (values kind.residue c.args.a.now) in
    let n = length c.args.a.now in
    let long = length_adjoint (values kind.residue c.args.a.now) ∙ length_values kind.modulus kind.residue c.args.a.now in
    record {
      answer = (
        search rules,
        table_all kind.modulus kind.residue (λ i. get_or whole i (pos 0)) c.loop-i.out c.loop-i.i n (omega arith) (omega arith) (omega arith) c.loop-i.invariant
            ∙ ap (map (rest kind.modulus)) (self_table whole n long),
      );
      kept = tt;
    }
