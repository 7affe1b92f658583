use Rattle.bats_checks.proofs.tests.holding.no_more_than_8192_are_kept.Given as goal

abbrev pub ghosts-fills-C-Ledger : goal.ghosts-fills-C-Ledger
ghosts-fills-C-Ledger g a = record { name = a.counters.0.name; parts = a.counters.0.parts }

abbrev pub ghosts-fills-L-Ledger : goal.ghosts-fills-L-Ledger
ghosts-fills-L-Ledger g a = record { name = a.counters.1.name; parts = a.counters.1.parts }
