use Rattle.bats_peel.specs.steps.Fixing.{HasColumns}
use Rattle.bats_peel.proofs.fixing.columns_at.Given as goal

abbrev pub invariant-rows : goal.invariant-rows
invariant-rows l = HasColumns l.matrix l.places l.r l.columns
