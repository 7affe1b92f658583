use Rattle.std.proofs.Common.{◌≤◌}
use Rattle.bats_peel.specs.steps.Search.{AreTested, Tries}
use Rattle.bats_peel.proofs.order.round.Given as goal

abbrev pub invariant-places : goal.invariant-places
invariant-places g l = record {
  tries : Tries l.locals 0 l.place l.fn.progress l.progress;
  tested : AreTested l.locals l.progress.known.items l.progress.tested.items;
  rise : l.fn.coef_steps ≤ l.coef_steps;
}
