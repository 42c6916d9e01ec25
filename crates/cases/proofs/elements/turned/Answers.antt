use Rattle.std.proofs.Common.{◌≡◌, ◌∷◌, [], length, arith}
use Rattle.std.proofs.lemmas.Grind.{common_steps}
use Rattle.ring.specs.Calls.{length_test1, range_test}
use Rattle.ring.specs.Elements.{turned}
use Rattle.ring.specs.Kinds.{values}
use Rattle.cases.proofs.Residues.{values_long, gives_list}
use Rattle.cases.proofs.elements.turned.Goals as goal

pub returns : goal.returns
returns g c =
    let residue = g.K.Coefficient.residue in
    let a = values residue c.args.a.now in
    let same : c.as_slice.result.now ≡ c.turn-answer.new.out = grind (arith, common_steps) in
    let first = values_long residue c.args.a.now in
    gives_list g.K.Coefficient.modulus residue g.K.Element.residue_bytes g.K.Packed.packed g.met.K.Element.same (length_test1 (length c.args.a.now) ∷ range_test (length c.args.a.now) c.args.k ∷ []) (length_test1 (length a) ∷ range_test (length a) c.args.k ∷ []) (turned c.args.k a) c.turn-answer.new.out c.as_slice.result.now c.turn-answer.result c.written.result same
    (rw first) c.turn-answer.ensures c.written.ensures
