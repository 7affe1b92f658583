use Rattle.std.proofs.Common.{◌≡◌, ◌≤◌, ◌+◌, length, take, get_or}
use Rattle.gf_rows.specs.Plan.{plan_on_column}
use Rattle.bats_peel.specs.steps.Parts.{segment, Changes}
use Rattle.bats_peel.proofs.terms.replay.Given as goal

abbrev pub invariant-ops : goal.invariant-ops
invariant-ops g l = record {
  changes : Changes l.first l.count l.fn.matrix l.matrix l.fn.plan l.plan
      (λ column values i. get_or (plan_on_column (take l.i l.ops) (segment l.fn.matrix l.fn.plan column values l.first l.count)) i 0);
  count : length l.plan ≡ length l.fn.plan + l.i;
  coef_steps_rise : l.fn.coef_steps ≤ l.coef_steps;
}
