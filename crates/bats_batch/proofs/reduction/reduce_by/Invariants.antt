use Rattle.std.proofs.Common.{◌≤◌, ◌+◌, length, take}
use Rattle.bats_batch.specs.steps.Reduction.{Reduces}
use Rattle.bats_batch.specs.steps.Entries.{pivots_of, rows_of}
use Rattle.bats_batch.proofs.reduction.reduce_by.Given as goal

abbrev pub invariant-loop-entry : goal.invariant-loop-entry
invariant-loop-entry g l = record {
  reduced : Reduces (length l.fn.row) (rows_of l.entries) (take l.entry-index (pivots_of l.entries)) l.fn.row l.row;
  coef_steps : l.coef_steps ≤ l.fn.coef_steps + l.entry-index;
  coef_steps_rise : l.fn.coef_steps ≤ l.coef_steps;
}
