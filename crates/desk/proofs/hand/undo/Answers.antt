use Rattle.key.specs.Held.{basis_of}
use Rattle.session.specs.Held.{state_of}
use Rattle.desk.proofs.Hands.{withdraw_not_refused, withdrawn_state}
use Rattle.desk.proofs.hand.undo.Goals as goal

pub unreachable-requires : goal.unreachable-requires
unreachable-requires c =
    let key = c.args.session.now.key.now in
    withdraw_not_refused key.class (basis_of key) (state_of c.args.session.now) c.args.order.number c.requires _ _ _ _ c.in-Err.ensures.step

pub returns-clause-state : goal.returns-clause-state
returns-clause-state c =
    let key = c.args.session.now.key.now in
    withdrawn_state key.class (basis_of key) (state_of c.args.session.now) c.args.order.number c.requires _ _ _ _ c.in-Ok.ensures.step
