use Rattle.std.proofs.Common.{◌≡◌}
use Rattle.bats_checks.specs.InMemory.{HasTaken}
use Rattle.bats_checks.proofs.in_memory.send_batch.Given as goal

abbrev pub invariant-columns : goal.invariant-columns
invariant-columns g l = record {
  relay : l.relay.held.session ≡ l.session;
  taken : HasTaken l.encoder.file l.relay.held;
}
