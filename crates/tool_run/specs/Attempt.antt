-- What a command leaves of input and output, before the output is flushed and anything is said on the notes.
use Rattle.std.specs.Prelude.{◌≡◌, ℕ, List, string_bytes, Result, Ok, Err}
use Rattle.bats_io.specs.Faults.{Rose}
use Rattle.bats_io.specs.Sink.{Appends}
use Rattle.bats_io.specs.Streams.{InputState, OutputState, IsTold}
use Rattle.tool_run.specs.declared.finish.Finish.{Finish}
use Rattle.tool_run.specs.declared.status.Status.{Status}
use Rattle.tool_run.specs.declared.status.Status.TheVariants as statuses
use Rattle.tool_run.specs.declared.stop.Stop.{Stop}
use Rattle.tool_run.specs.declared.stop.Stop.TheVariants as stops
use Rattle.tool_run.specs.Streams.{Counters, Ends}
use Rattle.tool_run.specs.Ending.{Ending, HasRead, HasWorked}
use Rattle.tool_run.specs.Promise.{Promise}

-- a status that no failed call and no want of memory is behind
abbrev pub IsOfEnding : Status → Type 0
IsOfEnding statuses.ReadFault = ⊥
IsOfEnding statuses.WriteFault = ⊥
IsOfEnding statuses.Memory = ⊥
IsOfEnding _ = Unit {0}

-- a part of the output that a run cut short may have written
pub record WritesPart (promise : Promise) (input : List ℕ) (before after : OutputState) : Type 0 where
  pub part : List ℕ
  pub is_part : promise.partly input part
  pub written : Appends before.written after.written part

-- a part of the output that a run has written whose reading failed
pub record WritesPartRead (promise : Promise) (a b : InputState) (before after : OutputState) : Type 0 where
  pub part : List ℕ
  pub is_part : promise.partly_read a.left b.left part
  pub written : Appends before.written after.written part

-- the whole output of a right ending was written
pub record Completes (promise : Promise) (input : List ℕ) (before after : Ends) (given now : Counters) (finish : Finish) : Type 0 where
  pub ending : Ending
  pub is_ending : promise.ends input ending
  pub status_is : finish.status ≡ ending.status
  pub of_ending : IsOfEnding finish.status
  pub line_is : string_bytes finish.line ≡ ending.line
  pub read : HasRead ending.reach before.input.left after.input.left
  pub worked : HasWorked ending.work given now
  pub input_fault : after.input.faults ≡ before.input.faults
  pub output : Appends before.output.written after.output.written ending.output
  pub output_fault : after.output.faults ≡ before.output.faults

-- a read failed
pub record CannotRead (promise : Promise) (before after : Ends) : Type 0 where
  pub input_fault : Rose before.input.faults after.input.faults
  pub output : WritesPartRead promise before.input after.input before.output after.output
  pub output_fault : after.output.faults ≡ before.output.faults

-- a write failed
pub record CannotWrite (promise : Promise) (input : List ℕ) (before after : Ends) : Type 0 where
  pub input_fault : after.input.faults ≡ before.input.faults
  pub output : WritesPart promise input before.output after.output
  pub output_fault : Rose before.output.faults after.output.faults

-- memory ran out
pub record LacksMemory (promise : Promise) (input : List ℕ) (before after : Ends) : Type 0 where
  pub input_fault : after.input.faults ≡ before.input.faults
  pub output : WritesPart promise input before.output after.output
  pub output_fault : after.output.faults ≡ before.output.faults

-- what it has done, by what it answers
abbrev pub AttemptsAs : Promise → List ℕ → Ends → Ends → Counters → Counters → Result Finish Stop → Type 0
AttemptsAs promise input before after given now (Ok finish) = Completes promise input before after given now finish
AttemptsAs promise input before after given now (Err stops.ReadFault) = CannotRead promise before after
AttemptsAs promise input before after given now (Err stops.WriteFault) = CannotWrite promise input before after
AttemptsAs promise input before after given now (Err stops.Memory) = LacksMemory promise input before after

-- what a command does of its promise before its output is flushed, with the counters before and after it
pub record Attempts (promise : Promise) (before after : Ends) (given now : Counters) (result : Result Finish Stop) : Type 0 where
  pub input : List ℕ
  pub told : IsTold before.input.left input
  pub read : promise.reads before.input.left after.input.left
  pub as_far : AttemptsAs promise input before after given now result

-- the same, whatever the counters are: of a command that promises nothing of them
abbrev pub AttemptsUncounted : Promise → Ends → Ends → Result Finish Stop → Type 0
AttemptsUncounted promise before after result = (given now : Counters) → Attempts promise before after given now result
