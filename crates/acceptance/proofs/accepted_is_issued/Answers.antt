use Rattle.acceptance.proofs.Accepting.{accepted_is_issued}
use Rattle.acceptance.proofs.accepted_is_issued.Goals as goal

pub returns : goal.returns
returns c = accepted_is_issued
