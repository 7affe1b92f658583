use Rattle.std.proofs.Common.{◌≡◌, ◌≤◌, ◌+◌, ◌*◌}
use Rattle.tool_replay.specs.Trial.{arrived}
use Rattle.tool_replay.specs.steps.Hops.{arrivals_before}
use Rattle.tool_replay.proofs.chain.cross.Given as goal

abbrev pub invariant-relays : goal.invariant-relays
invariant-relays g l = record {
  arrived : l.packets.items ≡ arrived l.options l.relay;
  steps : l.counters.steps ≤ l.fn.counters.steps + arrivals_before l.options l.relay * l.options.m;
}
