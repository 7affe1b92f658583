use Rattle.bats_checks.proofs.tests.stripes.two_workers_meet.Given as goal

abbrev pub ghosts-two_meet : goal.ghosts-two_meet
ghosts-two_meet g a = record { name = a.blank.name; parts = a.blank.parts }
