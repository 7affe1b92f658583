use Rattle.std.proofs.Common.{ℕ, ◌≡◌, ◌<◌, slice_index}
use Rattle.gf_rows.specs.Matrix.{matrix_entry}
use Rattle.bats_decode.proofs.answering.first_change.Given as goal

abbrev pub invariant-search : goal.invariant-search
invariant-search l = (k : ℕ) → k < l.i → matrix_entry l.matrix l.r (slice_index l.free k) ≡ 0
