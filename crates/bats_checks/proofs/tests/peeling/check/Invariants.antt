use Rattle.bats_checks.proofs.tests.peeling.check.Given as goal

abbrev pub ghosts-peeled_of-C-Ledger : goal.ghosts-peeled_of-C-Ledger
ghosts-peeled_of-C-Ledger g a = record { name = a.counters.0.name; parts = a.counters.0.parts }

abbrev pub ghosts-peeled_of-L-Ledger : goal.ghosts-peeled_of-L-Ledger
ghosts-peeled_of-L-Ledger g a = record { name = a.counters.1.name; parts = a.counters.1.parts }
