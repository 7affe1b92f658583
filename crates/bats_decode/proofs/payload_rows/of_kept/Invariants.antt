use Rattle.std.proofs.Common.{◌≡◌, length, take}
use Rattle.bats_batch.specs.Held.{row_count, kept_packets}
use Rattle.bats_model.specs.Relay.{payloads_of}
use Rattle.bats_decode.proofs.payload_rows.of_kept.Given as goal

abbrev pub invariant-batches : goal.invariant-batches
invariant-batches l =
    let batches = l.fn.held.batches in
    (l.first ≡ row_count (take l.i batches)) × (l.rows.cols ≡ l.fn.held.session.t) × (length l.rows.rows ≡ row_count batches)
    × (take l.first l.rows.rows ≡ payloads_of (kept_packets (take l.i batches)))
