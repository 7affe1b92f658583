use Rattle.bats_checks.proofs.tests.reducing.rows_without_columns_are_zero_rows.Given as goal

abbrev pub ghosts-no_columns_are_reduced : goal.ghosts-no_columns_are_reduced
ghosts-no_columns_are_reduced g a = record { name = a.blank.name; parts = a.blank.parts }
