use Rattle.std.proofs.Common.{◌≡◌, true, sym, refl, subst}
use Rattle.key.specs.Held.{basis_of}
use Rattle.session.specs.Held.{state_of}
use Rattle.desk.specs.Hands.{matched}
use Rattle.desk.proofs.Hands.{kept_own, new_stands, refused_keeps, refused_state, undone_is, undone_state}
use Rattle.desk.proofs.hand.announce.Goals as goal

pub returns-in_err-order-clause-state : goal.returns-in_err-order-clause-state
returns-in_err-order-clause-state c =
    let key = c.args.session.now.key.now in
    refused_state key.class (basis_of key) (state_of c.args.session.now) c.args.hash.now _ _ c.args.hand.now c.in_err-order.ensures.step

pub returns-in_err-order-clause-own : goal.returns-in_err-order-clause-own
returns-in_err-order-clause-own c =
    let key = c.args.session.now.key.now in
    kept_own key.class (basis_of key) (state_of c.args.session.now) c.args.hand.now c.args.hand.now _ refl
    (refused_keeps key.class (basis_of key) (state_of c.args.session.now) _ _ _ _ _ c.in_err-order.ensures.step)

pub undo-requires : goal.undo-requires
undo-requires c =
    let key = c.args.session.now.key.now in
    new_stands key.class (basis_of key) (state_of c.args.session.now) c.args.hash.now _ c.in_ok-order.order c.in_ok-order.ensures.step

pub returns-then-is_some-clause-state : goal.returns-then-is_some-clause-state
returns-then-is_some-clause-state c =
    let key = c.args.session.now.key.now in
    undone_state key.class (basis_of key) (state_of c.args.session.now) c.args.hash.now _ c.in_ok-order.order c.in_ok-order.ensures.step c.args.hand.now _ c.if-is_some.ensures c.undo.ensures.state

pub returns-then-is_some-clause-own : goal.returns-then-is_some-clause-own
returns-then-is_some-clause-own c =
    let key = c.args.session.now.key.now in
    kept_own key.class (basis_of key) (state_of c.args.session.now) c.args.hand.now c.args.hand.now _ refl
    (undone_is key.class (basis_of key) (state_of c.args.session.now) c.args.hash.now _ c.in_ok-order.order c.in_ok-order.ensures.step _ c.undo.ensures.state)

pub returns-clause-own : goal.returns-clause-own
returns-clause-own c own =
    let key = c.args.session.now.key.now in
    subst (λ o. matched o (state_of c.announce.new.self) ≡ true) (sym c.put.ensures)
    (new_stands key.class (basis_of key) (state_of c.args.session.now) c.args.hash.now _ c.in_ok-order.order c.in_ok-order.ensures.step)
