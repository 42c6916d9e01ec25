use Rattle.std.proofs.Common.{length, refl, ap, ◌∙◌}
use Rattle.key.specs.Held.{basis_of}
use Rattle.session.specs.Held.{state_of}
use Rattle.replay_sessions.proofs.Others.{sign_stays}
use Rattle.replay_sessions.proofs.foreign.sign.Goals as goal
use Rattle.replay_sessions.proofs.foreign.sign.Goals.{then-differs, else-differs}

pub returns : goal.returns
returns c =
    let session = c.args.session.now in
    let hand = c.with_order-other.result.hand in
    elim c.if-differs.branch [
      | then-differs w ↦ ap state_of w.session-is ∙ w.sign-answer.ensures.state ∙ sign_stays session.key.now.class (basis_of session.key.now) (state_of session) hand c.args.sample.now c.args.area.now (length c.args.scratch.now) (w.if-differs.ensures refl)
      | else-differs w ↦ ap state_of w.session-is
    ]
