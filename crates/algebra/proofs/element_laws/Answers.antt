use Rattle.algebra.proofs.Laws.{element_laws}
use Rattle.algebra.proofs.element_laws.Goals as goal

pub returns : goal.returns
returns c = element_laws
