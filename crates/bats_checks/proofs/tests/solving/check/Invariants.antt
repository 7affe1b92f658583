use Rattle.bats_checks.proofs.tests.solving.check.Given as goal

abbrev pub ghosts-solved-C-Ledger : goal.ghosts-solved-C-Ledger
ghosts-solved-C-Ledger g a = record { name = a.counters.0.name; parts = a.counters.0.parts }

abbrev pub ghosts-solved-L-Ledger : goal.ghosts-solved-L-Ledger
ghosts-solved-L-Ledger g a = record { name = a.counters.1.name; parts = a.counters.1.parts }
