use Rattle.bats_checks.proofs.tests.rows.changes_rows_of_a_matrix.Given as goal

abbrev pub ghosts-change_matrix : goal.ghosts-change_matrix
ghosts-change_matrix g a = record { name = a.blank.name; parts = a.blank.parts }
