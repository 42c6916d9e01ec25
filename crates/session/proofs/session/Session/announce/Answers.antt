use Rattle.session.specs.Held.{state_of}
use Rattle.session.proofs.Replies.{announce_orders}
use Rattle.session.proofs.Transitions.{class_in, basis_in}
use Rattle.session.proofs.session.Session.announce.Goals as goal

pub unreachable-requires : goal.unreachable-requires
unreachable-requires c =
    let s = c.args.self.now in
    announce_orders (class_in s) (basis_in s) (state_of s) c.in_ok-reply.reply _ c.in_ok-reply.ensures.step c.in_default.not-Ordered
