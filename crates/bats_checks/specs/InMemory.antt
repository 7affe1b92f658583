-- What the relay and the receiver of the example in memory have taken: packets with which the file agrees.
use Rattle.std.specs.Prelude.{ℕ, List}
use Rattle.bats_model.specs.Agreement.{AgreesWithAll}
use Rattle.bats_model.specs.declared.packet.Packet.{Packet}
use Rattle.bats_batch.specs.Held.{HeldData}
use Rattle.bats_batch.specs.Held.{StandsFor as HoldsFor}
use Rattle.bats_decode.specs.Decoder.{DecoderData, StandsFor}

-- the held batches stand for packets with each of which the file agrees
pub record HasTaken (file : List ℕ) (held : HeldData) : Type 0 where
  pub packets : List Packet
  pub stands : HoldsFor packets held
  pub agrees : AgreesWithAll held.session packets file

-- the decoder stands for packets with each of which the file agrees
pub record HasReceived (file : List ℕ) (decoder : DecoderData) : Type 0 where
  pub packets : List Packet
  pub stands : StandsFor packets decoder
  pub agrees : AgreesWithAll decoder.held.session packets file
