use Rattle.bats_dense.proofs.Completing.{Solves-completed}
use Rattle.bats_dense.proofs.laws.completed_values_solve.Goals as goal

pub returns : goal.returns
returns c eqs others column dense values reduced = Solves-completed eqs others column dense values reduced
