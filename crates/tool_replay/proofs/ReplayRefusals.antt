-- The endings of `replay` that write nothing.
use Rattle.std.proofs.Common.{ℕ, ◌≡◌, ◌≢◌, [], None, refl}
use Rattle.bats_script.specs.declared.script_end.ScriptEnd.{ScriptEnd}
use Rattle.bats_script.specs.declared.script_end.ScriptEnd.TheVariants as ends
use Rattle.bats_world.specs.declared.event.WorldEnd.{WorldEnd}
use Rattle.bats_world.specs.declared.event.WorldEnd.TheVariants as causes
use Rattle.tool_run.specs.Attempt.{IsOfEnding}
use Rattle.tool_run.specs.Ending.{Ending, to_end}
use Rattle.tool_replay.specs.Replay.{no_script_ending, obstacle_ending}

-- the whole input was read, nothing was written, and no work is promised
pub record IsRefused (ending : Ending) : Type 0 where
  pub output : ending.output ≡ []
  pub reach : ending.reach ≡ to_end
  pub work : ending.work ≡ None

pub IsRefused-no_script : (end : ScriptEnd) → IsRefused (no_script_ending end)
IsRefused-no_script (ends.Key key) = record { output = refl; reach = refl; work = refl }
IsRefused-no_script ends.TooLong = record { output = refl; reach = refl; work = refl }
IsRefused-no_script ends.Memory = record { output = refl; reach = refl; work = refl }

pub IsRefused-obstacle : (number : ℕ) (cause : WorldEnd) → IsRefused (obstacle_ending number cause)
IsRefused-obstacle number causes.Memory = record { output = refl; reach = refl; work = refl }
IsRefused-obstacle number causes.NoNode = record { output = refl; reach = refl; work = refl }
IsRefused-obstacle number causes.NotARelay = record { output = refl; reach = refl; work = refl }
IsRefused-obstacle number causes.NoPacket = record { output = refl; reach = refl; work = refl }
IsRefused-obstacle number causes.NoLink = record { output = refl; reach = refl; work = refl }
IsRefused-obstacle number causes.NothingHeld = record { output = refl; reach = refl; work = refl }
IsRefused-obstacle number causes.Full = record { output = refl; reach = refl; work = refl }
IsRefused-obstacle number causes.ColumnTooLarge = record { output = refl; reach = refl; work = refl }
IsRefused-obstacle number causes.PoolFull = record { output = refl; reach = refl; work = refl }

-- their statuses are those of endings, but where memory ran out

pub IsOfEnding-no_script : (end : ScriptEnd) → end ≢ ends.Memory → IsOfEnding (no_script_ending end).status
IsOfEnding-no_script (ends.Key key) other = tt
IsOfEnding-no_script ends.TooLong other = tt
IsOfEnding-no_script ends.Memory other = absurd (other refl)

pub IsOfEnding-obstacle : (number : ℕ) (cause : WorldEnd) → cause ≢ causes.Memory → IsOfEnding (obstacle_ending number cause).status
IsOfEnding-obstacle number causes.Memory other = absurd (other refl)
IsOfEnding-obstacle number causes.NoNode other = tt
IsOfEnding-obstacle number causes.NotARelay other = tt
IsOfEnding-obstacle number causes.NoPacket other = tt
IsOfEnding-obstacle number causes.NoLink other = tt
IsOfEnding-obstacle number causes.NothingHeld other = tt
IsOfEnding-obstacle number causes.Full other = tt
IsOfEnding-obstacle number causes.ColumnTooLarge other = tt
IsOfEnding-obstacle number causes.PoolFull other = tt
