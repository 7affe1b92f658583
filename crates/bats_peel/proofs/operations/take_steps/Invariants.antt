use Rattle.std.proofs.Common.{◌≡◌, ◌≤◌, ◌<◌, ℕ, false, length, drop, get_or}
use Rattle.bats_peel.specs.declared.order.Step.{Step}
use Rattle.bats_peel.specs.steps.Order.{AreSteps}
use Rattle.bats_peel.specs.steps.Work.{IsWork, is_taken}
use Rattle.bats_peel.proofs.operations.take_steps.Given as goal

abbrev pub invariant-steps : goal.invariant-steps
invariant-steps g l = record {
  work : IsWork l.held.session l.held.batches l.work;
  columns : l.work.columns ≡ l.fn.work.columns;
  remaining : AreSteps l.held.session l.locals l.work.known.items (drop l.step-index l.steps);
  untaken : (k : ℕ) (d : Step) → l.step-index ≤ k → k < length l.steps → is_taken l.work (get_or l.steps k d).place ≡ false;
  coef_steps_rise : l.fn.coef_steps ≤ l.coef_steps;
}
