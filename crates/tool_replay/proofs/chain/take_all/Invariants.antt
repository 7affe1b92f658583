use Rattle.std.proofs.Common.{ℕ, ◌≡◌, ◌≤◌, ◌+◌, ◌*◌, take}
use Rattle.bats_batch.specs.Held.{StandsFor}
use Rattle.bats_relay.specs.Mixer.{sent_of}
use Rattle.tool_replay.proofs.chain.take_all.Given as goal

abbrev pub invariant-packets : goal.invariant-packets
invariant-packets g l = record {
  session : l.mixer.held.session ≡ l.fn.mixer.held.session;
  seed : l.mixer.seed ≡ l.fn.mixer.seed;
  sent : (batch : ℕ) → sent_of l.mixer batch ≡ sent_of l.fn.mixer batch;
  stands : StandsFor (take l.packet-index l.packets) l.mixer.held;
  steps : l.counters.steps ≤ l.fn.counters.steps + l.packet-index * l.fn.mixer.held.session.m;
}
