-- What a whole run promises.
use Rattle.std.specs.Prelude.{◌≡◌, ◌⊎◌, ℕ, true, List}
use Rattle.bats_io.specs.Faults.{Rose}
use Rattle.bats_io.specs.Sink.{Appends, AppendsPrefix}
use Rattle.bats_io.specs.Streams.{InputState, OutputState, IsTold}
use Rattle.tool_run.specs.declared.status.Status.{Status}
use Rattle.tool_run.specs.declared.status.Status.TheVariants as statuses
use Rattle.tool_run.specs.declared.stop.Stop.{Stop}
use Rattle.tool_run.specs.declared.stop.Stop.TheVariants as stops
use Rattle.tool_run.specs.Streams.{RunState}
use Rattle.tool_run.specs.Ending.{Ending, HasRead, HasWorked, line_of}
use Rattle.tool_run.specs.Promise.{Promise}

-- these bytes were written, and all is flushed
pub record WritesAndFlushes (before after : OutputState) (bytes : List ℕ) : Type 0 where
  pub written : Appends before.written after.written bytes
  pub flushed : after.flushed ≡ true
  pub faults : after.faults ≡ before.faults

-- a write or a flush of these bytes failed
pub record FailsToWrite (before after : OutputState) (bytes : List ℕ) : Type 0 where
  pub written : AppendsPrefix before.written after.written bytes
  pub faults : Rose before.faults after.faults

-- the line was reported, and the status is this one, or it could not be reported
abbrev pub Reports : OutputState → OutputState → List ℕ → Status → Status → Type 0
Reports before after line status result =
    ((result ≡ status) × WritesAndFlushes before after line) ⊎ ((result ≡ statuses.WriteFault) × FailsToWrite before after line)

-- no read failed, and a run cut short may have written this part of the output
abbrev pub IsPart : Promise → List ℕ → InputState → InputState → List ℕ → Type 0
IsPart promise input before after part = (after.faults ≡ before.faults) × promise.partly input part

-- a read failed, and the run may have written this part of the output before
abbrev pub IsPartRead : Promise → InputState → InputState → List ℕ → Type 0
IsPartRead promise before after part = Rose before.faults after.faults × promise.partly_read before.left after.left part

-- a run cut short for this cause wrote this part, and all is flushed; or, where the output is the cause, a write or a flush
-- of it failed then
abbrev pub IsCutShort : Promise → List ℕ → RunState → RunState → Stop → List ℕ → Type 0
IsCutShort promise input before after stops.Memory part =
    IsPart promise input before.input after.input part × WritesAndFlushes before.output after.output part
IsCutShort promise input before after stops.ReadFault part =
    IsPartRead promise before.input after.input part × WritesAndFlushes before.output after.output part
IsCutShort promise input before after stops.WriteFault part =
    (IsPart promise input before.input after.input part ⊎ IsPartRead promise before.input after.input part)
    × (Appends before.output.written after.output.written part × Rose before.output.faults after.output.faults)

-- the run was cut short for this cause, and this is the line that says so
pub record Stops (promise : Promise) (input : List ℕ) (before after : RunState) (stop : Stop) (line : List ℕ) : Type 0 where
  pub part : List ℕ
  pub is_part : IsCutShort promise input before after stop part
  pub line_is : line ≡ line_of stop

-- the run wrote the output of a right ending and flushed it, and did no more operations than that promises; these are the
-- ending's status and line
pub record Finishes (promise : Promise) (input : List ℕ) (before after : RunState) (status : Status) (line : List ℕ) : Type 0 where
  pub ending : Ending
  pub is_ending : promise.ends input ending
  pub status_is : status ≡ ending.status
  pub line_is : line ≡ ending.line
  pub read : HasRead ending.reach before.input.left after.input.left
  pub input_fault : after.input.faults ≡ before.input.faults
  pub worked : HasWorked ending.work before.counters after.counters
  pub output : WritesAndFlushes before.output after.output ending.output

-- what a run has done that has this status and this line to report: a read, a write or memory failed, or it finished
abbrev pub HasRun : Promise → List ℕ → RunState → RunState → Status → List ℕ → Type 0
HasRun promise input before after statuses.ReadFault line = Stops promise input before after stops.ReadFault line
HasRun promise input before after statuses.WriteFault line = Stops promise input before after stops.WriteFault line
HasRun promise input before after statuses.Memory line = Stops promise input before after stops.Memory line
HasRun promise input before after status line = Finishes promise input before after status line

-- what a run of a command promises: of the bytes that the input tells, or of some bytes where it tells nothing, the run
-- reads no more than it has to, ends as the command's promise says, and then reports on the notes how it ended
pub record RunsBy (promise : Promise) (before after : RunState) (result : Status) : Type 0 where
  pub input : List ℕ
  pub told : IsTold before.input.left input
  pub read : promise.reads before.input.left after.input.left
  pub status : Status
  pub line : List ℕ
  pub has_run : HasRun promise input before after status line
  pub reports : Reports before.notes after.notes line status result
