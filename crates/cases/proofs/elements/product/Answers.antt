use Rattle.std.proofs.Common.{◌≡◌, ◌∷◌, [], length, ◌∙◌, arith}
use Rattle.std.proofs.lemmas.Grind.{common_steps}
use Rattle.ring.specs.Calls.{length_test3}
use Rattle.ring.specs.Elements.{product}
use Rattle.ring.specs.Kinds.{values}
use Rattle.cases.proofs.Residues.{values_long, gives_list}
use Rattle.cases.proofs.elements.product.Goals as goal

pub returns : goal.returns
returns g c =
    let residue = g.K.Coefficient.residue in
    let a = values residue c.args.a.now in
    let b = values residue c.args.b.now in
    let same : c.as_slice.result.now ≡ c.product-answer.new.out = grind (arith, common_steps) in
    let long : length c.as_mut_slice.result.now ≡ length c.args.a.now = c.as_mut_slice.ensures.len ∙ c.in_ok-out.ensures.len in
    let first = values_long residue c.args.a.now in
    let second = values_long residue c.args.b.now in
    gives_list g.K.Coefficient.modulus residue g.K.Element.residue_bytes g.K.Packed.packed g.met.K.Element.same (length_test3 (length c.args.a.now) (length c.args.b.now) (length c.as_mut_slice.result.now) ∷ []) (length_test3 (length a) (length b) (length a) ∷ []) (product a b) c.product-answer.new.out c.as_slice.result.now c.product-answer.result c.written.result same
    (rw (long, first, second)) c.product-answer.ensures.answer c.written.ensures
