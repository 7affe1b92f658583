use Rattle.bats_bench.proofs.main.Given as goal

abbrev pub ghosts-print_digests : goal.ghosts-print_digests
ghosts-print_digests g a = record { name = a.blank.name; parts = a.blank.parts }

abbrev pub ghosts-print_solve_times-C-Ledger : goal.ghosts-print_solve_times-C-Ledger
ghosts-print_solve_times-C-Ledger g a = record { name = a.coef_blank.name; parts = a.coef_blank.parts }

abbrev pub ghosts-print_solve_times-L-Ledger : goal.ghosts-print_solve_times-L-Ledger
ghosts-print_solve_times-L-Ledger g a = record { name = a.blank.name; parts = a.blank.parts }
