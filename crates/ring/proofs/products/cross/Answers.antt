use Rattle.std.proofs.Common.{◌∙◌, arith}
use Rattle.ring.proofs.Sums.{cross_step, cross_end}
use Rattle.ring.proofs.products.cross.Goals as goal

pub loop-x-preserved : goal.loop-x-preserved
loop-x-preserved g c =
    let steps = c.in-Some.ensures.steps in
    cross_step g.K.Coefficient.modulus g.K.Coefficient.residue c.in-Some.x.now c.in-Some.y.now _ _ _ _ _ _ _
    (omega (arith, g.met.K.Coefficient.several)) (g.met.K.Coefficient.below c.loop-x.sum) steps.0 steps.1 c.times.ensures c.plus-sum.ensures
    ∙ c.loop-x.invariant

pub returns : goal.returns
returns g c = cross_end g.K.Coefficient.modulus g.K.Coefficient.residue c.args.a.now c.args.b.now _ _ _
    (g.met.K.Coefficient.below c.loop-x.sum) (λ h. h.1.0) (λ h. h.1.0) c.in-None.ensures.steps c.loop-x.invariant
