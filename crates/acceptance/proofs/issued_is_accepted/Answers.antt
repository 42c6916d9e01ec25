use Rattle.acceptance.proofs.Issuing.{issued_is_accepted}
use Rattle.acceptance.proofs.issued_is_accepted.Goals as goal

pub returns : goal.returns
returns c = issued_is_accepted
