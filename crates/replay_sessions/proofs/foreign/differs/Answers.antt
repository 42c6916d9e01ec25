use Rattle.std.proofs.Common.{◌≡◌, ◌+◌, not, ◌&&◌, eqb, sym, ap, ◌∙◌}
use Rattle.key.specs.Held.{basis_of}
use Rattle.session.specs.Held.{state_of}
use Rattle.replay_sessions.proofs.Others.{count_is, differs_is}
use Rattle.replay_sessions.proofs.foreign.differs.Goals as goal
use Rattle.replay_sessions.proofs.foreign.differs.Goals.{then-count, else-count}

pub returns : goal.returns
returns c h =
    let session = c.args.session.now in
    let key = session.key.now in
    let count = c.count-count.result in
    let order = c.in-Some.order in
    let counts = count_is key.class (basis_of key) (state_of session) count.issued count.capacity count.standing (ap (λ s. s.answer) c.count-count.ensures) in
    let stands : c.if-count.stands ≡ (count.standing && eqb order.number (count.issued + 1)) =
    elim c.if-count.branch [
      | then-count w ↦ cc
      | else-count w ↦ cc
    ] in
    differs_is (state_of session) c.args.hand.now order count.issued count.standing c.in-Some.is counts (ap not (sym stands) ∙ h)
