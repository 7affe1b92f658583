use Rattle.bats_tool.proofs.tests.make_run.Given as goal

abbrev pub ghosts-run_counted-C-Ledger : goal.ghosts-run_counted-C-Ledger
ghosts-run_counted-C-Ledger g a = record { name = a.blanks.0.name; parts = a.blanks.0.parts }

abbrev pub ghosts-run_counted-L-Ledger : goal.ghosts-run_counted-L-Ledger
ghosts-run_counted-L-Ledger g a = record { name = a.blanks.1.name; parts = a.blanks.1.parts }
