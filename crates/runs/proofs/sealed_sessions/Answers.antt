use Rattle.runs.proofs.Sealing.{sealed}
use Rattle.runs.proofs.sealed_sessions.Goals as goal

pub returns : goal.returns
returns c = sealed
