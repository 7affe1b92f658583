use Rattle.std.proofs.Common.{◌≡◌, ◌+◌, length, take}
use Rattle.gf_rows.specs.Spends.{Spends}
use Rattle.bats_dense.specs.steps.Clearing.{Clears}
use Rattle.bats_dense.proofs.rows.clear_rows.Given as goal

abbrev pub invariant-clearing : goal.invariant-clearing
invariant-clearing g l = record {
  clears : Clears l.pivot l.column (take l.row-index l.rows) l.fn.matrix l.matrix l.fn.plan l.plan;
  counted : l.coef_steps + length l.fn.plan ≡ l.fn.coef_steps + length l.plan;
  coef_steps : Spends l.fn.coef_steps l.coef_steps l.row-index;
}
