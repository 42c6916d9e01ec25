use Rattle.std.proofs.Common.{◌≡◌, length, ◌∙◌, arith}
use Rattle.ring.specs.Elements.{turned}
use Rattle.ring.specs.Kinds.{values}
use Rattle.cases.proofs.Residues.{values_long}
use Rattle.cases.proofs.Turning.{turned_long, turn_more, turn_all}
use Rattle.cases.proofs.elements.turn.Goals as goal

pub loop-i-preserved : goal.loop-i-preserved
loop-i-preserved g c =
    let residue = g.K.Coefficient.residue in
    let wanted = turned c.args.k (values residue c.args.a.now) in
    let size : length wanted ≡ length c.args.a.now = turned_long c.args.k (values residue c.args.a.now) ∙ values_long residue c.args.a.now in
    turn_more residue g.K.Coefficient.modulus c.loop-i.out wanted c.loop-i.i c.in_ok-x.field-0 (omega arith) (omega arith) c.loop-i.invariant
    (rw (c.in_ok-strip.ensures.1.0, c.in_ok-strip.ensures.1.1) at c.in_ok-x.ensures.1)

pub returns : goal.returns
returns g c =
    let residue = g.K.Coefficient.residue in
    let wanted = turned c.args.k (values residue c.args.a.now) in
    let size : length wanted ≡ length c.args.a.now = turned_long c.args.k (values residue c.args.a.now) ∙ values_long residue c.args.a.now in
    (c.in_ok-strip.ensures.0, turn_all residue g.K.Coefficient.modulus c.loop-i.out wanted c.loop-i.i (omega arith) (omega arith) c.loop-i.invariant)
