use Rattle.std.proofs.Common.{ℕ, ◌≡◌, ◌<◌}
use Rattle.std.specs.Prelude.{slice_index}
use Rattle.bats_stripes.proofs.pieces.is_zero.Given as goal

abbrev pub invariant-bytes : goal.invariant-bytes
invariant-bytes l = (i : ℕ) → i < l.i → slice_index l.piece i ≡ 0
