use Rattle.bats_checks.proofs.tests.relaying.rules_say_how_many.Given as goal

abbrev pub ghosts-relays-C-Ledger : goal.ghosts-relays-C-Ledger
ghosts-relays-C-Ledger g a = record { name = a.counters.0.name; parts = a.counters.0.parts }

abbrev pub ghosts-relays-L-Ledger : goal.ghosts-relays-L-Ledger
ghosts-relays-L-Ledger g a = record { name = a.counters.1.name; parts = a.counters.1.parts }

abbrev pub ghosts-relays-2-C-Ledger : goal.ghosts-relays-2-C-Ledger
ghosts-relays-2-C-Ledger g a = record { name = a.counters.0.name; parts = a.counters.0.parts }

abbrev pub ghosts-relays-2-L-Ledger : goal.ghosts-relays-2-L-Ledger
ghosts-relays-2-L-Ledger g a = record { name = a.counters.1.name; parts = a.counters.1.parts }
