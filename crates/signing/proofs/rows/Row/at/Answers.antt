use Rattle.std.proofs.Common.{◌<◌, length, get_or, pos, ap, ◌∙◌, arith}
use Rattle.signing.proofs.Aparts.{length_apart, minus_fits, word_is, word_small}
use Rattle.signing.proofs.rows.Row.at.Goals as goal

pub overflow_sub-result : goal.overflow_sub-result
overflow_sub-result c =
    minus_fits _ _ _ _ c.self.invariant c.args.k c.coefficient.result c.coefficient-2.result
    (record { sfits = c.coefficient.type_inv }) (record { sfits = c.coefficient-2.type_inv }) c.coefficient.ensures c.coefficient-2.ensures

pub returns-clause-value : goal.returns-clause-value
returns-clause-value c =
    let r = c.self.inside in
    let long = length_apart r.a.now r.b.now r.x.now r.y.now c.self.invariant.same in
    let within : c.args.k < length r.a.now = omega (arith, long, ap length c.self.view_is) in
    word_is _ _ _ _ c.self.invariant c.args.k c.coefficient.result c.coefficient-2.result
    (record { sfits = c.coefficient.type_inv }) (record { sfits = c.coefficient-2.type_inv }) c.coefficient.ensures c.coefficient-2.ensures within
    ∙ ap (λ v. get_or v c.args.k (pos 0)) c.self.view_is

pub returns-clause-small : goal.returns-clause-small
returns-clause-small c =
    word_small _ _ _ _ c.self.invariant c.args.k c.coefficient.result c.coefficient-2.result
    (record { sfits = c.coefficient.type_inv }) (record { sfits = c.coefficient-2.type_inv }) c.coefficient.ensures c.coefficient-2.ensures
