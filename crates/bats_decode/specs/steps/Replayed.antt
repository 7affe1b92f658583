-- The payload rows, one for each kept packet.
use Rattle.std.specs.Prelude.{ℕ, List}
use Rattle.gf_rows.specs.Matrix.{Grid}
use Rattle.bats_model.specs.Relay.{payloads_of}
use Rattle.bats_model.specs.declared.packet.Packet.{Packet}

-- the payloads of the packets are the rows of t bytes each
abbrev pub payload_grid : ℕ → List Packet → Grid
payload_grid t packets = record { cols = t; rows = payloads_of packets }
