use Rattle.std.proofs.Common.{sym, refl, ◌∙◌}
use Rattle.std.proofs.lemmas.List.{nil_from_length}
use Rattle.scheme.specs.Steps.{work}
use Rattle.session.specs.Held.{state_of}
use Rattle.session.proofs.Replies.{own_reply}
use Rattle.session.proofs.Transitions.{class_in, basis_in, same_step}
use Rattle.session.proofs.session.Session.withdraw.Goals as goal

pub returns-in-Ok-clause-step : goal.returns-in-Ok-clause-step
unfolding work
returns-in-Ok-clause-step c =
    let s = c.args.self.now in
    let e = c.in-Ok.ensures in
    let own = own_reply (class_in s) (basis_in s) (state_of s) _ c.in-Ok.field-0 e.step in
    let t = nil_from_length c.transition.new.target c.transition.auto.target in
    let g = nil_from_length c.transition.new.signature c.transition.auto.signature in
    same_step (sym own) (sym t) (sym g) refl ∙ e.step
