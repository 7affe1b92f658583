use Rattle.bats_checks.proofs.tests.bases.packets_are_kept_as_they_came.Given as goal

abbrev pub ghosts-offers-C-Ledger : goal.ghosts-offers-C-Ledger
ghosts-offers-C-Ledger g a = record { name = a.counters.0.name; parts = a.counters.0.parts }

abbrev pub ghosts-offers-L-Ledger : goal.ghosts-offers-L-Ledger
ghosts-offers-L-Ledger g a = record { name = a.counters.1.name; parts = a.counters.1.parts }
