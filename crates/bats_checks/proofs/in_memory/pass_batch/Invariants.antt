use Rattle.std.proofs.Common.{ℕ, ◌≡◌, List}
use Rattle.bats_checks.specs.InMemory.{HasTaken, HasReceived}
use Rattle.bats_checks.proofs.in_memory.pass_batch.Given as goal

abbrev pub invariant-outputs : goal.invariant-outputs
invariant-outputs g l = record {
  held : l.relay.held ≡ l.fn.relay.held;
  receiver : l.receiver.held.session ≡ l.session;
  received : (file : List ℕ) → HasTaken file l.fn.relay.held → HasReceived file l.fn.receiver → HasReceived file l.receiver;
}
