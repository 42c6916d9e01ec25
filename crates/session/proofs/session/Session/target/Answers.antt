use Rattle.std.proofs.Common.{sym, refl, ◌∙◌}
use Rattle.std.proofs.lemmas.List.{nil_from_length}
use Rattle.scheme.specs.Steps.{work}
use Rattle.session.specs.Held.{state_of}
use Rattle.session.proofs.Replies.{own_reply}
use Rattle.session.proofs.Transitions.{class_in, basis_in, same_step}
use Rattle.session.proofs.session.Session.target.Goals as goal

pub returns-clause-step : goal.returns-clause-step
unfolding work
returns-clause-step c =
    let s = c.args.self.now in
    let e = c.in_ok-transition.ensures in
    let own = own_reply (class_in s) (basis_in s) (state_of s) _ c.in_ok-transition.field-0 e.step in
    let g = nil_from_length c.transition.new.signature c.transition.auto.signature in
    same_step (sym own) refl (sym g) refl ∙ e.step
