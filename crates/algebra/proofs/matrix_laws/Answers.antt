use Rattle.algebra.proofs.Joins.{bases_are_matrices}
use Rattle.algebra.proofs.matrix_laws.Goals as goal

pub returns : goal.returns
returns c = bases_are_matrices
