-- How an input was received.
use Rattle.std.specs.Prelude.{ℕ, List, Result, Ok, Err}
use Rattle.bats_model.specs.Session.{SessionData}
use Rattle.bats_model.specs.declared.packet.Packet.{Packet}
use Rattle.tool_run.specs.declared.stop.Stop.{Stop}
use Rattle.tool_run.specs.Attempt.{AttemptsUncounted}
use Rattle.tool_run.specs.Streams.{Ends}
use Rattle.tool_records.specs.Keeping.{StopsKeeping, keeping_promise}
use Rattle.tool_records.specs.Walk.{WalksToEnd}
use Rattle.tool_records.specs.steps.Kept.{Keeps}
use Rattle.tool_sink.specs.declared.receiving.Intake.{Intake}
use Rattle.tool_sink.specs.declared.receiving.Reception.{Reception}
use Rattle.tool_sink.specs.declared.receiving.Reception.TheVariants as receptions
use Rattle.tool_sink.specs.steps.Receiving.{HasReceived}

-- that packets of a session were received so
abbrev pub received_in : Intake → SessionData → List Packet → Type 0
received_in intake session packets = HasReceived session packets intake

-- the whole input was received, or it isn't taken whole and the run ends so, or it was cut short; the counter of operations
-- on payloads was first and is last so
abbrev pub ReceivesAllAs : ℕ → ℕ → Ends → Ends → Result Reception Stop → Type 0
ReceivesAllAs first last start now (Ok (receptions.Whole intake)) = WalksToEnd (Keeps (received_in intake) first last) start now
ReceivesAllAs first last start now (Ok (receptions.Ended finish)) = AttemptsUncounted (keeping_promise StopsKeeping) start now (Ok finish)
ReceivesAllAs first last start now (Err stop) = AttemptsUncounted (keeping_promise StopsKeeping) start now (Err stop)

pub record ReceivesAll (first last : ℕ) (start now : Ends) (result : Result Reception Stop) : Type 0 where
  pub as_far : ReceivesAllAs first last start now result
