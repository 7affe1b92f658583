use Rattle.bats_peel.specs.steps.Search.{IsBestOf}
use Rattle.bats_peel.proofs.counts.next_inactive.Given as goal

abbrev pub invariant-symbols : goal.invariant-symbols
invariant-symbols l = IsBestOf l.known l.counts l.s l.best
