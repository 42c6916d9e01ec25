use Rattle.std.proofs.Common.{Some, ap, ◌∙◌}
use Rattle.key.specs.Held.{basis_of}
use Rattle.session.specs.Held.{state_of}
use Rattle.desk.proofs.Hands.{kept_own, refused_keeps}
use Rattle.desk.proofs.hand.withdraw.Goals as goal

pub returns-in-Err-clause-own : goal.returns-in-Err-clause-own
returns-in-Err-clause-own c =
    let key = c.args.session.now.key.now in
    let e = c.in-Err.ensures in
    kept_own key.class (basis_of key) (state_of c.args.session.now) c.args.hand.now c.put.new.hand _
    (c.put.ensures ∙ ap (λ o. Some o) e.back ∙ c.in_ok-order.ensures.value) (refused_keeps key.class (basis_of key) (state_of c.args.session.now) _ _ _ _ _ e.step)
