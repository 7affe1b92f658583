use Rattle.bats_peel.specs.steps.Local.{HasFactors}
use Rattle.bats_peel.proofs.local.local_matrix.Given as goal

abbrev pub invariant-packets : goal.invariant-packets
invariant-packets l = HasFactors l.batch l.basis.kept l.i l.matrix
