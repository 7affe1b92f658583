use Rattle.bats_checks.proofs.tests.stripes.runs_a_plan_on_two_rows.Given as goal

abbrev pub ghosts-two_rows_each : goal.ghosts-two_rows_each
ghosts-two_rows_each g a = record { name = a.blank.name; parts = a.blank.parts }
