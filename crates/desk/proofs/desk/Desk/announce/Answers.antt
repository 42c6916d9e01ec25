use Rattle.key.specs.Held.{basis_of}
use Rattle.session.specs.Held.{state_of}
use Rattle.desk.proofs.Hands.{own_announce}
use Rattle.desk.proofs.desk.Desk.announce.Goals as goal

pub returns-clause-step : goal.returns-clause-step
returns-clause-step c =
    let session = c.args.self.now.session in
    let key = session.key.now in
    own_announce key.class (basis_of key) (state_of session) c.args.self.now.hand c.args.hash.now _ _ c.args.self.now.own c.announce.ensures.answer c.announce.ensures.state
