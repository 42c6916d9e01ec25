use Rattle.algebra.proofs.Joins.{invertible_modulo_two}
use Rattle.algebra.proofs.modulo_two.Goals as goal

pub returns : goal.returns
returns c = invertible_modulo_two
