-- What an encoder holds.
use Rattle.std.specs.Prelude.{ℕ, List}
use Rattle.bats_model.specs.Session.{SessionData}

-- a session and its file
pub record EncoderData : Type 0 where
  pub session : SessionData
  pub file : List ℕ
