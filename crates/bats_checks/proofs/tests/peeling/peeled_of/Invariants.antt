use Rattle.std.proofs.Common.{◌≡◌, List}
use Rattle.bats_model.specs.declared.packet.Packet.{Packet}
use Rattle.bats_batch.specs.Held.{StandsFor}
use Rattle.bats_checks.proofs.tests.peeling.peeled_of.Given as goal

abbrev pub invariant-loop-i : goal.invariant-loop-i
invariant-loop-i g l = record {
  session : l.held.session ≡ l.session;
  stands : (packets : List Packet) × StandsFor packets l.held;
}
