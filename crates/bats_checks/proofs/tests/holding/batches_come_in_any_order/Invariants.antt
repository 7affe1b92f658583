use Rattle.bats_checks.proofs.tests.holding.batches_come_in_any_order.Given as goal

abbrev pub ghosts-holds-C-Ledger : goal.ghosts-holds-C-Ledger
ghosts-holds-C-Ledger g a = record { name = a.counters.0.name; parts = a.counters.0.parts }

abbrev pub ghosts-holds-L-Ledger : goal.ghosts-holds-L-Ledger
ghosts-holds-L-Ledger g a = record { name = a.counters.1.name; parts = a.counters.1.parts }
