use Rattle.std.proofs.Common.{◌≡◌, is_some, refl, rules, tests}
use Rattle.session.specs.Held.{state_of}
use Rattle.ring.specs.Classes.{hash_length_of}
use Rattle.scheme.specs.Steps.{work}
use Rattle.session.proofs.Entries.{length_chunks}
use Rattle.session.proofs.Transitions.{same_step, working}
use Rattle.session.proofs.session.Session.count.Goals as goal

pub returns : goal.returns
unfolding work
returns c =
    let s : c.eq.result ≡ is_some (state_of c.args.self.now).standing = search (rules, tests) in
    let l = length_chunks (hash_length_of c.args.self.now.key.now.class) c.args.self.now.issued c.args.self.now.log.now in
    working c.args.self.now refl refl (same_step (cc) refl refl refl)
