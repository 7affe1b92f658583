-- The state of a run as clauses see it, before and after it.
use Rattle.std.specs.Prelude.{ℕ}
use Rattle.bats_io.specs.Streams.{InputState, OutputState}

-- the two counters of a run: operations on rows of coefficients, and on rows of payloads
pub record Counters : Type 0 where
  pub coefficients : ℕ
  pub payloads : ℕ

-- the three streams of a run, and its counters
pub record RunState : Type 0 where
  pub input : InputState
  pub output : OutputState
  pub notes : OutputState
  pub counters : Counters

-- an input and an output at one moment
pub record Ends : Type 0 where
  pub input : InputState
  pub output : OutputState
