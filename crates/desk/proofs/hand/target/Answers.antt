use Rattle.std.proofs.Common.{refl}
use Rattle.key.specs.Held.{basis_of}
use Rattle.session.specs.Held.{state_of}
use Rattle.desk.proofs.Hands.{kept_own, target_keeps}
use Rattle.desk.proofs.hand.target.Goals as goal

pub returns-clause-state : goal.returns-clause-state
returns-clause-state c =
    let key = c.args.session.now.key.now in
    target_keeps key.class (basis_of key) (state_of c.args.session.now) _ _ _ _ _ _ _ c.target.ensures.step

pub returns-clause-own : goal.returns-clause-own
returns-clause-own c =
    let key = c.args.session.now.key.now in
    kept_own key.class (basis_of key) (state_of c.args.session.now) c.args.hand.now c.args.hand.now _ refl
    (target_keeps key.class (basis_of key) (state_of c.args.session.now) _ _ _ _ _ _ _ c.target.ensures.step)
