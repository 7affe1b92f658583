-- What a decoder has received.
use Rattle.std.specs.Prelude.{◌≡◌, List}
use Rattle.bats_decode.specs.Decoder.{StandsFor}
use Rattle.bats_model.specs.Session.{SessionData}
use Rattle.bats_model.specs.declared.packet.Packet.{Packet}
use Rattle.tool_sink.specs.declared.receiving.Intake.{Intake}

-- the decoder is the session's, and stands for these packets
pub record HasReceived (session : SessionData) (packets : List Packet) (intake : Intake) : Type 0 where
  pub session_is : intake.session ≡ session
  pub held_session : intake.decoder.held.session ≡ session
  pub stands : StandsFor packets intake.decoder
