-- That held batches came from packets.
use Rattle.std.specs.Prelude.{List}
use Rattle.bats_model.specs.declared.packet.Packet.{Packet}
use Rattle.bats_batch.specs.Held.{HeldData, StandsFor}

-- the held batches stand for some packets, so those that are kept are of the session's shape
pub record HasReceived (held : HeldData) : Type 0 where
  pub packets : List Packet
  pub stands : StandsFor packets held
