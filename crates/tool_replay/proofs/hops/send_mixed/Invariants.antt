use Rattle.std.proofs.Common.{ℕ, ◌≡◌, ◌≢◌, ◌≤◌, ◌-◌}
use Rattle.bats_relay.specs.Mixer.{sent_of}
use Rattle.tool_replay.specs.steps.Hops.{Sends, outputs_of}
use Rattle.tool_replay.proofs.hops.send_mixed.Given as goal

abbrev pub invariant-outputs : goal.invariant-outputs
invariant-outputs l = record {
  sends : Sends (outputs_of l.fn.mixer l.batch 0 (sent_of l.mixer l.batch)) l.fn.hop l.hop;
  held : l.mixer.held ≡ l.fn.mixer.held;
  seed : l.mixer.seed ≡ l.fn.mixer.seed;
  within : sent_of l.mixer l.batch ≤ l.count;
  others : (other : ℕ) → other ≢ l.batch → sent_of l.mixer other ≡ sent_of l.fn.mixer other;
}

abbrev pub decreases-outputs : goal.decreases-outputs
decreases-outputs l = l.count - sent_of l.mixer l.batch
