use Rattle.std.proofs.Common.{ℕ, ◌≡◌, ◌≢◌, ◌≤◌, ◌-◌, flat_map, None}
use Rattle.std.specs.List.{range_with_len}
use Rattle.bats_batch.specs.Held.{kept_at}
use Rattle.bats_relay.specs.Mixer.{sent_of}
use Rattle.tool_run.specs.Writes.{Writes}
use Rattle.tool_stream.specs.steps.Sending.{output_record}
use Rattle.tool_stream.proofs.sending.send_batch.Given as goal

abbrev pub invariant-outputs : goal.invariant-outputs
invariant-outputs g l = record {
  written : Writes (g.O.Sink.state l.fn.output) (g.O.Sink.state l.output)
      (flat_map (output_record l.session l.fn.mixer.seed l.number (kept_at l.fn.mixer.held.batches l.number))
      (range_with_len 0 (sent_of l.mixer l.number))) None;
  held : l.mixer.held ≡ l.fn.mixer.held;
  seed : l.mixer.seed ≡ l.fn.mixer.seed;
  within : sent_of l.mixer l.number ≤ l.count;
  others : (other : ℕ) → other ≢ l.number → sent_of l.mixer other ≡ sent_of l.fn.mixer other;
}

abbrev pub decreases-outputs : goal.decreases-outputs
decreases-outputs g l = l.count - sent_of l.mixer l.number
