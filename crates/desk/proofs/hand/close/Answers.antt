use Rattle.std.proofs.Common.{◌≡◌, true, subst}
use Rattle.key.specs.Held.{basis_of}
use Rattle.session.specs.Held.{state_of}
use Rattle.desk.specs.Hands.{matched}
use Rattle.desk.proofs.Hands.{withdraw_not_refused}
use Rattle.desk.proofs.hand.close.Goals as goal

pub returns-in-Err-clause-own : goal.returns-in-Err-clause-own
returns-in-Err-clause-own c own =
    let state = state_of c.args.session.now in
    let key = c.args.session.now.key.now in
    absurd (withdraw_not_refused key.class (basis_of key) state c.in_ok-order.order.number (subst (λ o. matched o state ≡ true) c.in_ok-order.was own) _ _ _ _ c.in-Err.ensures.step)
