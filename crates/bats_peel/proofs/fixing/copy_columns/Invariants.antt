use Rattle.std.proofs.Common.{get_or}
use Rattle.gf_rows.specs.Matrix.{matrix_entry}
use Rattle.bats_peel.specs.steps.Local.{WritesEntries}
use Rattle.bats_peel.proofs.fixing.copy_columns.Given as goal

abbrev pub invariant-places : goal.invariant-places
invariant-places l = WritesEntries (λ j. matrix_entry l.matrix l.r (get_or l.fn.places j 0)) l.j l.r l.fn.columns l.columns
