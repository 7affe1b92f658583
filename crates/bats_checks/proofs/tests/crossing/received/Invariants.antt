use Rattle.bats_checks.proofs.tests.crossing.received.Given as goal

abbrev pub ghosts-sent-C-Ledger : goal.ghosts-sent-C-Ledger
ghosts-sent-C-Ledger g a = record { name = a.counters.0.name; parts = a.counters.0.parts }

abbrev pub ghosts-sent-L-Ledger : goal.ghosts-sent-L-Ledger
ghosts-sent-L-Ledger g a = record { name = a.counters.1.name; parts = a.counters.1.parts }
