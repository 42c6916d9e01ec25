-- What a session in memory stands for. Assumes nothing.
use Rattle.std.specs.Prelude.{◌≡◌, ◌*◌, take, drop}
use Rattle.key.specs.Held.{basis_of}
use Rattle.ring.specs.Classes.{hash_length_of}
use Rattle.scheme.specs.Sessions.{State, Call, Step}
use Rattle.scheme.specs.Steps.{step}
use Rattle.session.specs.Logs.{chunks}
use Rattle.session.specs.Statuses.{standing_of}
use Rattle.session.specs.declared.session.Session.{Session}

-- its state: the log's first bytes are the entries
abbrev pub state_of : Session → State
state_of session = record {
  entries = chunks (hash_length_of session.key.now.class) session.issued session.log.now;
  standing = standing_of session.status (take (hash_length_of session.key.now.class) session.hash);
  capacity = session.capacity;
  spare = drop (session.issued * hash_length_of session.key.now.class) session.log.now;
}

-- what a call does to it
abbrev pub step_of : Session → Call → Step
step_of session call = step session.key.now.class (basis_of session.key.now) (state_of session) call

-- two sessions, or one at two times, with one key and a log of one lender
pub record SameLoans (one other : Session) : Type 0 where
  pub key : other.key.now ≡ one.key.now
  pub lender : other.log.ghost_name ≡ one.log.ghost_name
