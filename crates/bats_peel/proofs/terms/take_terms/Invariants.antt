use Rattle.std.proofs.Common.{◌≤◌, ◌+◌, length}
use Rattle.bats_peel.specs.steps.Parts.{Sets, with_terms, known_count}
use Rattle.bats_peel.proofs.terms.take_terms.Given as goal

abbrev pub invariant-terms : goal.invariant-terms
invariant-terms g l = record {
  sets : Sets l.row l.fn.matrix l.matrix l.fn.plan l.plan (with_terms l.k l.local l.row l.i l.places l.known l.fn.matrix l.fn.plan);
  count : length l.plan ≤ length l.fn.plan + known_count l.local l.known l.k;
  coef_steps_rise : l.fn.coef_steps ≤ l.coef_steps;
}
