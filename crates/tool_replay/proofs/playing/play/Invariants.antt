use Rattle.bats_world.specs.World.{NetworkState, IsReached}
use Rattle.bats_world.specs.Standing.{StandsFor}
use Rattle.tool_replay.specs.steps.Playing.{HasPlayed}
use Rattle.tool_replay.proofs.playing.play.Given as goal

abbrev pub invariant-events : goal.invariant-events
invariant-events g l = (start : NetworkState) → StandsFor start l.fn.world → IsReached start
    → HasPlayed start l.events l.i l.fn.counters.steps l.counters.steps l.world
