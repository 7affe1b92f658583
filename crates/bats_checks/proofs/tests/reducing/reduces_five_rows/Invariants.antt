use Rattle.bats_checks.proofs.tests.reducing.reduces_five_rows.Given as goal

abbrev pub ghosts-five_rows_are_reduced : goal.ghosts-five_rows_are_reduced
ghosts-five_rows_are_reduced g a = record { name = a.blank.name; parts = a.blank.parts }
