use Rattle.std.proofs.Common.{refl, ap, ◌∙◌}
use Rattle.scheme.specs.Sessions.{ordered}
use Rattle.scheme.specs.Steps.{work, number_in}
use Rattle.session.specs.Held.{state_of}
use Rattle.session.proofs.Outcomes.{announce_full, announce_logged, announce_passes}
use Rattle.session.proofs.Transitions.{class_in, basis_in, same_step, none_stands, full, room_left, listing, refusing, working}
use Rattle.session.proofs.session.Session.admit.Goals as goal

pub returns-then-self-clause-step : goal.returns-then-self-clause-step
returns-then-self-clause-step c =
    let s = c.args.self.now in
    let e = announce_full (class_in s) (basis_in s) (state_of s) _ c.requires.long (none_stands s c.requires.idle) (full s c.if-self.true) in
    refusing s refl refl refl e

pub returns-then-lists-clause-step : goal.returns-then-lists-clause-step
returns-then-lists-clause-step c =
    let s = c.args.self.now in
    let e = announce_logged (class_in s) (basis_in s) (state_of s) _ c.requires.long (none_stands s c.requires.idle) (room_left s c.if-self.false) (listing s _ c.lists.ensures c.if-lists.true) in
    refusing s refl refl refl e

pub returns-clause-step : goal.returns-clause-step
unfolding work
returns-clause-step c =
    let s = c.args.self.now in
    let e = announce_passes (class_in s) (basis_in s) (state_of s) _ c.requires.long (none_stands s c.requires.idle) (room_left s c.if-self.false) (listing s _ c.lists.ensures c.if-lists.false) in
    working s refl e (same_step (ap (λ k. ordered k) (c.number.ensures ∙ ap number_in c.keep.ensures.state)) refl refl c.keep.ensures.state)
