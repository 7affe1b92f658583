use Rattle.std.proofs.Common.{◌≡◌, ◌+◌, ◌*◌, length}
use Rattle.gf_rows.specs.Performed.{Performed}
use Rattle.gf_rows.specs.Spends.{Spends}
use Rattle.bats_dense.specs.Kept.{KeepsOutside}
use Rattle.bats_dense.specs.steps.Below.{IsProgressBelow}
use Rattle.bats_dense.proofs.progress.reduce_columns.Given as goal

abbrev pub invariant-columns : goal.invariant-columns
invariant-columns g l = record {
  below : IsProgressBelow l.column l.eqs l.others l.progress;
  performed : Performed l.eqs l.fn.progress.matrix l.progress.matrix l.fn.progress.plan l.progress.plan;
  outside : KeepsOutside l.eqs l.others l.fn.progress.matrix l.progress.matrix;
  counted : l.coef_steps + length l.fn.progress.plan ≡ l.fn.coef_steps + length l.progress.plan;
  coef_steps : Spends l.fn.coef_steps l.coef_steps ((length l.eqs + length l.others) * l.column);
}
