-- What a relay has taken in of the packets of a session.
use Rattle.std.specs.Prelude.{ℕ, ◌≡◌, List, length}
use Rattle.bats_batch.specs.Held.{StandsFor}
use Rattle.bats_model.specs.Session.{SessionData}
use Rattle.bats_model.specs.declared.packet.Packet.{Packet}
use Rattle.bats_relay.specs.Mixer.{sent_of}
use Rattle.tool_stream.specs.declared.keeping.Intake.{Intake}

-- these packets came to a relay of this seed, and no output was made
pub record HasTakenIn (seed : List ℕ) (session : SessionData) (packets : List Packet) (intake : Intake) : Type 0 where
  pub session_is : intake.session ≡ session
  pub held_session : intake.mixer.held.session ≡ session
  pub seed_is : intake.mixer.seed ≡ seed
  pub counted : intake.packets ≡ length packets
  pub stands : StandsFor packets intake.mixer.held
  pub unsent : (batch : ℕ) → sent_of intake.mixer batch ≡ 0

-- that packets of a session were taken in so
abbrev pub taken_in : List ℕ → Intake → SessionData → List Packet → Type 0
taken_in seed intake session packets = HasTakenIn seed session packets intake
