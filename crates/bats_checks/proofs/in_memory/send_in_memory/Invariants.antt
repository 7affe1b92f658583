use Rattle.std.proofs.Common.{◌≡◌}
use Rattle.bats_checks.specs.InMemory.{HasTaken, HasReceived}
use Rattle.bats_checks.proofs.in_memory.send_in_memory.Given as goal

abbrev pub invariant-batches : goal.invariant-batches
invariant-batches g l = record {
  relay : l.relay.held.session ≡ l.fn.session;
  receiver : l.receiver.held.session ≡ l.fn.session;
  taken : HasTaken l.fn.file l.relay.held;
  received : HasReceived l.fn.file l.receiver;
}
