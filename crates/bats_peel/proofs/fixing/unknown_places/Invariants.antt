use Rattle.bats_peel.specs.steps.Fixing.{AreOutside}
use Rattle.bats_peel.proofs.fixing.unknown_places.Given as goal

abbrev pub invariant-contributors : goal.invariant-contributors
invariant-contributors l = AreOutside l.local l.known l.k l.places
