use Rattle.runs.proofs.HiddenKeys.{keys_stay_hidden}
use Rattle.runs.proofs.hidden_keys.Goals as goal

pub returns : goal.returns
returns c = keys_stay_hidden
