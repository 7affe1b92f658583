use Rattle.bats_peel.specs.steps.Local.{WritesEntries, local_factor}
use Rattle.bats_peel.proofs.local.write_row.Given as goal

abbrev pub invariant-contributors : goal.invariant-contributors
invariant-contributors l = WritesEntries (local_factor l.batch l.coefs) l.k l.r l.fn.matrix l.matrix
