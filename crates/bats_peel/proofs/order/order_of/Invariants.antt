use Rattle.std.proofs.Common.{◌≤◌}
use Rattle.bats_model.specs.Session.{symbols_of}
use Rattle.bats_peel.specs.steps.Search.{AreTested}
use Rattle.bats_peel.proofs.SymbolSets.{outside_count}
use Rattle.bats_peel.proofs.Ordering.{IsSoFar, AreInactiveSoFar}
use Rattle.bats_peel.proofs.order.order_of.Given as goal

abbrev pub invariant-inactivation : goal.invariant-inactivation
invariant-inactivation g l = record {
  so_far : IsSoFar l.session l.locals l.inactive l.progress;
  inactive : AreInactiveSoFar l.session l.locals l.inactive;
  tested : AreTested l.locals l.progress.known.items l.progress.tested.items;
  rise : l.fn.coef_steps ≤ l.coef_steps;
}

abbrev pub decreases-inactivation : goal.decreases-inactivation
decreases-inactivation g l = outside_count (symbols_of l.session) l.progress.known.items
