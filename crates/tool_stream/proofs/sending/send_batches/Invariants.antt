use Rattle.std.proofs.Common.{ℕ, ◌≡◌, ◌≤◌, ◌*◌, flat_map, None}
use Rattle.std.specs.List.{range_with_len}
use Rattle.tool_run.specs.Writes.{Writes}
use Rattle.tool_stream.specs.Relay.{most_outputs}
use Rattle.tool_stream.specs.steps.Sending.{HasSentNoneFrom, IsAnsweredBy, place_records, sent_before}
use Rattle.tool_stream.proofs.sending.send_batches.Given as goal

abbrev pub invariant-batches : goal.invariant-batches
invariant-batches g l = record {
  written : (answers : ℕ → ℕ) → IsAnsweredBy (goal.F-post g l.rule.closure) answers
      → Writes (g.O.Sink.state l.fn.output) (g.O.Sink.state l.output)
      (flat_map (place_records l.session l.fn.mixer.seed answers l.fn.mixer.held.batches) (range_with_len 0 l.place)) None;
  count : (answers : ℕ → ℕ) → IsAnsweredBy (goal.F-post g l.rule.closure) answers
      → l.sent ≡ sent_before answers l.fn.mixer.held.batches l.place;
  within : l.sent ≤ most_outputs * l.place;
  held : l.mixer.held ≡ l.fn.mixer.held;
  seed : l.mixer.seed ≡ l.fn.mixer.seed;
  unsent : HasSentNoneFrom l.mixer l.place;
}
