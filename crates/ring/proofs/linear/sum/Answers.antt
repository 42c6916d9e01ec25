use Rattle.std.proofs.Common.{◌≡◌, map, length, get_or, pos, ap, ◌∙◌, arith, rules}
use Rattle.ring.specs.Elements.{sum}
use Rattle.ring.specs.Kinds.{rest, values}
use Rattle.ring.proofs.Places.{self_table, length_sum}
use Rattle.ring.proofs.Entries.{length_values, sum_read}
use Rattle.ring.proofs.Tables.{table_more, table_all}
use Rattle.ring.proofs.linear.sum.Goals as goal

pub loop-i-preserved : goal.loop-i-preserved
loop-i-preserved g c =
    let kind = g.K.Coefficient in
    table_more kind.modulus kind.residue (λ i. get_or (sum (values kind.residue c.args.a.now) (values kind.residue c.args.b.now)) i (pos 0)) c.loop-i.out c.loop-i.i _ (omega arith) c.loop-i.invariant
    (sum_read kind.modulus kind.residue c.args.a.now c.args.b.now c.loop-i.i _ _ _ (omega arith) (omega arith) (search rules) (search rules) c.plus.ensures)

pub returns : goal.returns
returns g c =
    let kind = g.K.Coefficient in
    let A = values kind.residue c.args.a.now in
    let B = values kind.residue c.args.b.now in
    let n = length c.args.a.now in
    let long-a = length_values kind.modulus kind.residue c.args.a.now in
    let long-b = length_values kind.modulus kind.residue c.args.b.now in
    let same : length A ≡ length B = omega arith in
    record {
      answer = (
        search rules,
        table_all kind.modulus kind.residue (λ i. get_or (sum A B) i (pos 0)) c.loop-i.out c.loop-i.i n (omega arith) (omega arith) (omega arith) c.loop-i.invariant
            ∙ ap (map (rest kind.modulus)) (self_table (sum A B) n (length_sum A B same ∙ long-a)),
      );
      kept = tt;
    }
