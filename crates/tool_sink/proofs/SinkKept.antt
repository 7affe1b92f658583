-- The promises of the commands that solve keep what the run of any command rests on.
use Rattle.std.proofs.Common.{Bool}
use Rattle.tool_run.specs.Promise.{Keeps}
use Rattle.tool_records.proofs.KeptWalks.{keeping_promise-keeps}
use Rattle.tool_sink.specs.Sink.{IsSinkEnding, sink_promise}
use Rattle.tool_sink.specs.Check.{IsCheckEnding, check_promise}

pub sink_promise-keeps : (both : Bool) → Keeps (sink_promise both)
sink_promise-keeps both = keeping_promise-keeps (IsSinkEnding both)

pub check_promise-keeps : Keeps check_promise
check_promise-keeps = keeping_promise-keeps IsCheckEnding
