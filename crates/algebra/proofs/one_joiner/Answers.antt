use Rattle.algebra.proofs.Joins.{one_form_one_joiner}
use Rattle.algebra.proofs.one_joiner.Goals as goal

pub returns : goal.returns
returns c = one_form_one_joiner
