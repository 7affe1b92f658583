use Rattle.std.proofs.Common.{◌≤◌, length}
use Rattle.bats_peel.specs.steps.Search.{AreTested, Goes}
use Rattle.bats_peel.proofs.SymbolSets.{outside_count}
use Rattle.bats_peel.proofs.order.grow.Given as goal

abbrev pub invariant-rounds : goal.invariant-rounds
invariant-rounds g l = record {
  goes : Goes l.locals l.fn.progress.known.items l.fn.progress.steps.items l.progress;
  tested : AreTested l.locals l.progress.known.items l.progress.tested.items;
  rise : l.fn.coef_steps ≤ l.coef_steps;
}

abbrev pub decreases-rounds : goal.decreases-rounds
decreases-rounds g l = outside_count (length l.fn.progress.known.items) l.progress.known.items
