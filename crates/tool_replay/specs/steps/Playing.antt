-- What `replay` has between its steps: a script that was read, and events of it that took place.
use Rattle.std.specs.Prelude.{ℕ, ◌≡◌, ◌≤◌, ◌<◌, ◌+◌, ◌*◌, ◌^◌, List, drop, length, Ok}
use Rattle.bats_io.specs.Streams.{InputState, IsTold, IsEnded, ReadsAtMost}
use Rattle.bats_model.specs.Agreement.{IsFile}
use Rattle.bats_script.specs.declared.script.Script.{Script}
use Rattle.bats_world.specs.World.{NetworkState, IsReached, IsSameNetwork, opening}
use Rattle.bats_world.specs.Standing.{StandsFor, WorldData}
use Rattle.bats_world.specs.declared.event.Event.{Event}
use Rattle.tool_replay.specs.Replay.{after_events, max_script, script_of_bytes}

-- the whole input was read, and gives this script
pub record IsScriptRead (before after : InputState) (script : Script) : Type 0 where
  pub bytes : List ℕ
  pub told : IsTold before.left bytes
  pub read : ReadsAtMost before.left after.left (max_script + 1)
  pub end : IsEnded after.left
  pub no_fault : after.faults ≡ before.faults
  pub short : length bytes ≤ max_script
  pub is_read : script_of_bytes bytes ≡ Ok script

-- So many of the events took place, one after another from a start, and led to a state that the world stands for. No more
-- packets were given, and no more operations done on payload rows, than they can.
pub record HasPlayed (start : NetworkState) (events : List Event) (count first last : ℕ) (world : WorldData) : Type 0 where
  pub state : NetworkState
  pub stands : StandsFor state world
  pub reached : IsReached state
  pub same : IsSameNetwork start state
  pub plays : after_events start 0 events ≡ after_events state count (drop count events)
  pub given : length state.given ≤ length start.given + count
  pub worked : last ≤ first + count * start.session.m

-- a script was read, and all its events took place
pub record HasPlayedScript (before after : InputState) (script : Script) (first last : ℕ) (world : WorldData) : Type 0 where
  pub source : IsScriptRead before after script
  pub is_file : IsFile script.session script.file
  pub few : length script.events < 2 ^ 64
  pub played : HasPlayed (opening script.session script.file script.relay_seeds script.links) script.events
      (length script.events) first last world
