use Rattle.std.proofs.Common.{◌≡◌, ◌+◌, ◌++◌, length, take}
use Rattle.bats_model.specs.Relay.{payloads_of}
use Rattle.bats_decode.proofs.payload_rows.write_batch.Given as goal

abbrev pub invariant-packets : goal.invariant-packets
invariant-packets l =
    (l.rows.cols ≡ l.fn.rows.cols) × (length l.rows.rows ≡ length l.fn.rows.rows)
    × (take (l.first + l.i) l.rows.rows ≡ take l.first l.fn.rows.rows ++ payloads_of (take l.i l.basis.kept))
