use Rattle.bats_checks.proofs.tests.networks.a_file_crosses_the_network.Given as goal

abbrev pub ghosts-plays-C-Ledger : goal.ghosts-plays-C-Ledger
ghosts-plays-C-Ledger g a = record { name = a.counters.0.name; parts = a.counters.0.parts }

abbrev pub ghosts-plays-L-Ledger : goal.ghosts-plays-L-Ledger
ghosts-plays-L-Ledger g a = record { name = a.counters.1.name; parts = a.counters.1.parts }
