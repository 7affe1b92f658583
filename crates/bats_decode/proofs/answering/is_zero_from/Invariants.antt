use Rattle.std.proofs.Common.{ℕ, ◌≡◌, ◌<◌, ◌≤◌}
use Rattle.gf_rows.specs.Matrix.{matrix_entry}
use Rattle.bats_decode.proofs.answering.is_zero_from.Given as goal

abbrev pub invariant-columns : goal.invariant-columns
invariant-columns l = (c : ℕ) → l.first ≤ c → c < l.c → matrix_entry l.payload l.r c ≡ 0
