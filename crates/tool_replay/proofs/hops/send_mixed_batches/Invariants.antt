use Rattle.std.proofs.Common.{ℕ, ◌≡◌, ◌≤◌, flat_map}
use Rattle.std.specs.List.{range_with_len}
use Rattle.bats_relay.specs.Mixer.{sent_of}
use Rattle.tool_replay.specs.steps.Hops.{Sends, held_outputs}
use Rattle.tool_replay.proofs.hops.send_mixed_batches.Given as goal

abbrev pub invariant-batches : goal.invariant-batches
invariant-batches l = record {
  sends : Sends (flat_map (held_outputs l.fn.mixer l.m) (range_with_len 0 l.batch)) l.fn.hop l.hop;
  held : l.mixer.held ≡ l.fn.mixer.held;
  seed : l.mixer.seed ≡ l.fn.mixer.seed;
  unsent : (other : ℕ) → l.batch ≤ other → sent_of l.mixer other ≡ 0;
}
