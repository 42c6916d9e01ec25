use Rattle.std.proofs.Common.{map, length, pos, ap, ◌∙◌, arith, rules}
use Rattle.std.proofs.lemmas.List.{length-map}
use Rattle.ring.specs.Elements.{coefficient}
use Rattle.ring.specs.Kinds.{rest, values}
use Rattle.ring.proofs.Tables.{table_more, table_all, product_table}
use Rattle.ring.proofs.products.product.Goals as goal

pub loop-k-preserved : goal.loop-k-preserved
loop-k-preserved g c =
    let kind = g.K.Coefficient in
    table_more kind.modulus kind.residue (coefficient (values kind.residue c.args.a.now) (values kind.residue c.args.b.now))
    c.loop-k.out c.loop-k.k _ (omega arith) c.loop-k.invariant c.coefficient.ensures

pub returns : goal.returns
returns g c =
    let kind = g.K.Coefficient in
    let A = values kind.residue c.args.a.now in
    let B = values kind.residue c.args.b.now in
    record {
      answer = (
        search rules,
        table_all kind.modulus kind.residue (coefficient A B) c.loop-k.out c.loop-k.k (length c.args.a.now) (omega arith) (omega arith) (omega arith) c.loop-k.invariant
            ∙ ap (map (rest kind.modulus)) (product_table A B (length c.args.a.now) (length-map c.args.a.now (λ x. pos (kind.residue x)))),
      );
      kept = tt;
    }
