-- The exit status of each end of a run.
use Rattle.std.specs.Prelude.{ℕ}
use Rattle.tool_run.specs.declared.status.Status.{Status}
use Rattle.tool_run.specs.declared.status.Status.TheVariants as statuses

-- the exit status of each, 0 to 9
abbrev pub code_of : Status → ℕ
code_of statuses.Done = 0
code_of statuses.NeedMore = 1
code_of statuses.Inconsistent = 2
code_of statuses.Usage = 3
code_of statuses.Input = 4
code_of statuses.Limit = 5
code_of statuses.ReadFault = 6
code_of statuses.WriteFault = 7
code_of statuses.Memory = 8
code_of statuses.Script = 9
