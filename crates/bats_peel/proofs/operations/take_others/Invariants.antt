use Rattle.std.proofs.Common.{◌≡◌, ◌≤◌, ◌<◌, ℕ, true, length}
use Rattle.bats_peel.specs.steps.Work.{IsWork, is_taken}
use Rattle.bats_peel.proofs.operations.take_others.Given as goal

abbrev pub invariant-others : goal.invariant-others
invariant-others g l = record {
  work : IsWork l.held.session l.held.batches l.work;
  columns : l.work.columns ≡ l.fn.work.columns;
  known : l.work.known.items ≡ l.fn.work.known.items;
  taken : (b : ℕ) → b < l.place → b < length l.held.batches → is_taken l.work b ≡ true;
  coef_steps_rise : l.fn.coef_steps ≤ l.coef_steps;
}
