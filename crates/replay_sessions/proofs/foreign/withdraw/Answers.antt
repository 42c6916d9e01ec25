use Rattle.std.proofs.Common.{refl, ap, ◌∙◌}
use Rattle.key.specs.Held.{basis_of}
use Rattle.session.specs.Held.{state_of}
use Rattle.replay_sessions.proofs.Others.{withdraw_stays}
use Rattle.replay_sessions.proofs.foreign.withdraw.Goals as goal
use Rattle.replay_sessions.proofs.foreign.withdraw.Goals.{then-differs, else-differs}

pub returns : goal.returns
returns c =
    let session = c.args.session.now in
    let hand = c.with_order-other.result.hand in
    elim c.if-differs.branch [
      | then-differs w ↦ ap state_of w.session-is ∙ w.withdraw-answer.ensures.state ∙ withdraw_stays session.key.now.class (basis_of session.key.now) (state_of session) hand (w.if-differs.ensures refl)
      | else-differs w ↦ ap state_of w.session-is
    ]
