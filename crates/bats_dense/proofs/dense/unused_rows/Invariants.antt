use Rattle.bats_dense.specs.steps.Below.{AreUnused}
use Rattle.bats_dense.proofs.dense.unused_rows.Given as goal

abbrev pub invariant-places : goal.invariant-places
invariant-places l = AreUnused l.place l.eqs l.used l.rows
