use Rattle.algebra.proofs.Bounds.{forms_of_keys}
use Rattle.algebra.proofs.forms_of_keys.Goals as goal

pub returns : goal.returns
returns c = forms_of_keys
