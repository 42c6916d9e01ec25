use Rattle.session.specs.Held.{state_of}
use Rattle.session.proofs.Replies.{sign_signs}
use Rattle.session.proofs.Transitions.{class_in, basis_in}
use Rattle.session.proofs.session.Session.sign.Goals as goal

pub unreachable-requires : goal.unreachable-requires
unreachable-requires c =
    let s = c.args.self.now in
    sign_signs (class_in s) (basis_in s) (state_of s) c.in-Ok.reply _ _ _ _ c.in-Ok.ensures.step c.in_default.not-Signed
