use Rattle.bats_checks.proofs.tests.stripes.numbers_are_at_their_limits.Given as goal

abbrev pub ghosts-first_is_added_each : goal.ghosts-first_is_added_each
ghosts-first_is_added_each g a = record { name = a.blank.name; parts = a.blank.parts }
