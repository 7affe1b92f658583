use Rattle.std.proofs.Common.{get_or}
use Rattle.bats_peel.specs.declared.peeled.Place.TheVariants.{Column}
use Rattle.bats_peel.specs.steps.Work.{GivesPlaces}
use Rattle.bats_peel.proofs.work.place_columns.Given as goal

abbrev pub invariant-columns : goal.invariant-columns
invariant-columns l = GivesPlaces l.j (λ j. get_or l.columns j 0) (λ j. Column j) l.fn.places l.fn.known l.places l.known
