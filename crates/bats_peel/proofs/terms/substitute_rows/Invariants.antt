use Rattle.std.proofs.Common.{◌≤◌, ◌+◌, ◌*◌, length}
use Rattle.bats_model.specs.Batch.{degree_of}
use Rattle.bats_peel.specs.steps.Parts.{Changes, with_terms, known_count}
use Rattle.bats_peel.proofs.terms.substitute_rows.Given as goal

abbrev pub invariant-rows : goal.invariant-rows
invariant-rows g l = record {
  changes : Changes l.local.first l.i l.fn.matrix l.matrix l.fn.plan l.plan
      (λ column values i. with_terms (degree_of l.local.batch) l.local (l.local.first + i) i l.places l.known l.fn.matrix l.fn.plan column values);
  count : length l.plan ≤ length l.fn.plan + l.i * known_count l.local l.known (degree_of l.local.batch);
  coef_steps_rise : l.fn.coef_steps ≤ l.coef_steps;
}
