use Rattle.std.proofs.Common.{◌+◌, get_or}
use Rattle.bats_model.specs.Batch.{contributor_of}
use Rattle.bats_peel.specs.declared.peeled.Place.TheVariants.{Row}
use Rattle.bats_peel.specs.steps.Work.{GivesPlaces}
use Rattle.bats_peel.proofs.operations.name_rows.Given as goal

abbrev pub invariant-names : goal.invariant-names
invariant-names l = GivesPlaces l.i (λ i. contributor_of l.local.batch (get_or l.fixing.places i 0)) (λ i. Row (l.local.first + get_or l.fixing.rows i 0))
    l.fn.places l.fn.known l.places l.known
