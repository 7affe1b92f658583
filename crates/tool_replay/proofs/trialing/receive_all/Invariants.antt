use Rattle.std.proofs.Common.{◌≡◌, ◌≤◌, ◌+◌, ◌*◌, take}
use Rattle.bats_decode.specs.Decoder.{StandsFor}
use Rattle.tool_replay.proofs.trialing.receive_all.Given as goal

abbrev pub invariant-packets : goal.invariant-packets
invariant-packets g l = record {
  session : l.decoder.held.session ≡ l.fn.decoder.held.session;
  stands : StandsFor (take l.packet-index l.packets) l.decoder;
  steps : l.counters.steps ≤ l.fn.counters.steps + l.packet-index * l.fn.decoder.held.session.m;
}
