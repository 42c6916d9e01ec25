-- Whether an order stands. Assumes nothing.
use Rattle.std.specs.Prelude.{ℕ, List, Some, None, Option}
use Rattle.session.specs.declared.status.Status.{Status}
use Rattle.session.specs.declared.status.Status.TheVariants.{Idle, Standing}

-- how many orders stand
abbrev pub orders : Status → ℕ
orders Idle = 0
orders Standing = 1

-- the hash of the standing order
abbrev pub standing_of : Status → List ℕ → Option (List ℕ)
standing_of Idle hash = None
standing_of Standing hash = Some hash
