-- What the call leaves that flushes the output and reports on the notes.
use Rattle.std.specs.Prelude.{◌≡◌, ◌⊎◌, ℕ, true, List, string_bytes, Result, Ok, Err}
use Rattle.bats_io.specs.Faults.{Rose}
use Rattle.bats_io.specs.Streams.{OutputState}
use Rattle.tool_run.specs.declared.finish.Finish.{Finish}
use Rattle.tool_run.specs.declared.status.Status.{Status}
use Rattle.tool_run.specs.declared.status.Status.TheVariants as statuses
use Rattle.tool_run.specs.declared.stop.Stop.{Stop}
use Rattle.tool_run.specs.declared.stop.Stop.TheVariants as stops
use Rattle.tool_run.specs.Ending.{status_of, line_of}
use Rattle.tool_run.specs.Run.{Reports}

-- the output was flushed, and nothing else
pub record IsFlushed (before after : OutputState) : Type 0 where
  pub written : after.written ≡ before.written
  pub flushed : after.flushed ≡ true
  pub faults : after.faults ≡ before.faults

-- the output could not be flushed
pub record IsNotFlushed (before after : OutputState) : Type 0 where
  pub written : after.written ≡ before.written
  pub faults : Rose before.faults after.faults

-- the output was flushed, and the line reported; or it could not be flushed, and that was reported
abbrev pub FlushesAndReports : List ℕ → Status → OutputState → OutputState → OutputState → OutputState → Status → Type 0
FlushesAndReports line status before after notes notes' result =
    (IsFlushed before after × Reports notes notes' line status result)
    ⊎ (IsNotFlushed before after × Reports notes notes' (line_of stops.WriteFault) statuses.WriteFault result)

-- a run whose command ended so: output and notes before and after, and its status
abbrev pub Concludes : Result Finish Stop → OutputState → OutputState → OutputState → OutputState → Status → Type 0
Concludes (Ok finish) before after notes notes' result =
    FlushesAndReports (string_bytes finish.line) finish.status before after notes notes' result
Concludes (Err stops.WriteFault) before after notes notes' result =
    (after ≡ before) × Reports notes notes' (line_of stops.WriteFault) statuses.WriteFault result
Concludes (Err stops.ReadFault) before after notes notes' result =
    FlushesAndReports (line_of stops.ReadFault) (status_of stops.ReadFault) before after notes notes' result
Concludes (Err stops.Memory) before after notes notes' result =
    FlushesAndReports (line_of stops.Memory) (status_of stops.Memory) before after notes notes' result
