use Rattle.acceptance.proofs.Limits.{limits_never_refuse}
use Rattle.acceptance.proofs.limits_kept.Goals as goal

pub returns : goal.returns
returns c = limits_never_refuse
