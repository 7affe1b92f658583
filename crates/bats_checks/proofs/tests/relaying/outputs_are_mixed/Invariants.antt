use Rattle.bats_checks.proofs.tests.relaying.outputs_are_mixed.Given as goal

abbrev pub ghosts-mixes-C-Ledger : goal.ghosts-mixes-C-Ledger
ghosts-mixes-C-Ledger g a = record { name = a.counters.0.name; parts = a.counters.0.parts }

abbrev pub ghosts-mixes-L-Ledger : goal.ghosts-mixes-L-Ledger
ghosts-mixes-L-Ledger g a = record { name = a.counters.1.name; parts = a.counters.1.parts }
