-- How a run ends where nothing fails, and the notes lines of the causes that stop it.
use Rattle.std.specs.Prelude.{ℕ, ◌≡◌, ◌≤◌, ◌+◌, List, [], codes, Option, None, Some}
use Rattle.bats_io.specs.Streams.{IsEnded}
use Rattle.tool_run.specs.declared.status.Status.{Status}
use Rattle.tool_run.specs.declared.status.Status.TheVariants as statuses
use Rattle.tool_run.specs.declared.stop.Stop.{Stop}
use Rattle.tool_run.specs.declared.stop.Stop.TheVariants as stops
use Rattle.tool_run.specs.Streams.{Counters}

-- the status of a run that stops for this cause
abbrev pub status_of : Stop → Status
status_of stops.ReadFault = statuses.ReadFault
status_of stops.WriteFault = statuses.WriteFault
status_of stops.Memory = statuses.Memory

-- the notes line of this cause
abbrev pub line_of : Stop → List ℕ
line_of stops.ReadFault = codes "bats: read fault\n"
line_of stops.WriteFault = codes "bats: write fault\n"
line_of stops.Memory = codes "bats: out of memory\n"

-- how much of the input a run has read where it ends: nothing, a part, or all of it
pub data Reach : Type 0 where
  untouched : Reach
  in_part : Reach
  to_end : Reach

-- what that says of an input before and after the run: it is as it was, or no more is said here, or nothing is left
abbrev pub HasRead : Reach → Option (List ℕ) → Option (List ℕ) → Type 0
HasRead untouched before after = after ≡ before
HasRead in_part before after = Unit {0}
HasRead to_end before after = IsEnded after

-- what a bound on operations on payload rows says of the counters before and after the run; nothing, where none is promised
abbrev pub HasWorked : Option ℕ → Counters → Counters → Type 0
HasWorked None before after = Unit {0}
HasWorked (Some most) before after = after.payloads ≤ before.payloads + most

-- how a run ends where memory is found and no read, write or flush fails: its status, all of its output, its notes line,
-- how much it has read, and how many operations on payload rows it does at most, where that is promised
pub record Ending : Type 0 where
  pub status : Status
  pub output : List ℕ
  pub line : List ℕ
  pub reach : Reach
  pub work : Option ℕ

-- a run that refuses its words or its input, and writes no output
abbrev pub refusal : Status → List ℕ → Reach → Ending
refusal status line reach = record { status = status; output = []; line = line; reach = reach; work = None }
