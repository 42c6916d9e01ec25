use Rattle.acceptance.proofs.Issuing.{issued_is_accepted}
use Rattle.runs.proofs.Laws.{lawful}
use Rattle.runs.proofs.lawful_sessions.Goals as goal

pub returns : goal.returns
returns c = lawful issued_is_accepted
