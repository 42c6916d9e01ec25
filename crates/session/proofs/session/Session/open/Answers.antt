use Rattle.std.proofs.Common.{◌≡◌, length, drop, refl, ap, zero-mul}
use Rattle.ring.specs.Classes.{hash_length_of}
use Rattle.scheme.specs.Sessions.{opened, capacity_of}
use Rattle.key.specs.Held.{basis_of}
use Rattle.runs.proofs.Sealing.{sealed}
use Rattle.session.specs.Logs.{chunks}
use Rattle.session.proofs.States.{same_state}
use Rattle.session.proofs.session.Session.open.Goals as goal

pub returns : goal.returns
unfolding opened chunks
returns c =
    let e : c.min-capacity.result ≡ capacity_of c.args.key.now.class (length c.args.log.now) = cc in
    record {
      state = same_state refl refl e (ap (λ k. drop k c.args.log.now) (zero-mul (hash_length_of c.args.key.now.class)));
      key = refl;
      lender = refl;
      sealed = sealed c.args.key.now.class (basis_of c.args.key.now) c.class.ensures.sound c.args.log.now;
    }
