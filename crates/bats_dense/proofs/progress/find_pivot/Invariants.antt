use Rattle.std.proofs.Common.{ℕ, ◌≡◌, ◌<◌, false, get_or}
use Rattle.gf_rows.specs.Matrix.{matrix_entry}
use Rattle.bats_dense.specs.steps.Below.{is_used}
use Rattle.bats_dense.proofs.progress.find_pivot.Given as goal

abbrev pub invariant-search : goal.invariant-search
invariant-search l = (k : ℕ) → k < l.place → is_used l.used k ≡ false → matrix_entry l.matrix (get_or l.eqs k 0) l.column ≡ 0
