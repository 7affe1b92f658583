use Rattle.std.proofs.Common.{◌≡◌, ℕ, length, subst, arith}
use Rattle.tool_replay.specs.steps.Playing.{HasPlayed}
use Rattle.tool_replay.proofs.EventsPlayed.{HasPlayed-start, HasPlayed-more, HasPlayed-obstacle}
use Rattle.tool_replay.proofs.playing.play.Goals as goal

pub events-init : goal.events-init
events-init g c = λ start stands reached. HasPlayed-start start c.args.events.now c.args.counters.now.steps c.args.world.now stands reached

pub events-preserved : goal.events-preserved
events-preserved g c = λ start stands reached.
    HasPlayed-more start c.args.events.now c.events.i c.args.counters.now.steps c.events.counters.steps c.events.world
    (c.events.invariant start stands reached) c.event_at.result c.event_at.ensures.value c.step.new.steps c.step.new.self
    c.event_at.ensures.range c.in-Ok.ensures.ok c.in-Ok.ensures.steps

pub returns-in-Err-clause-err : goal.returns-in-Err-clause-err
returns-in-Err-clause-err g c = λ other start stands reached.
    HasPlayed-obstacle start c.args.events.now c.events.i c.args.counters.now.steps c.events.counters.steps c.events.world
    (c.events.invariant start stands reached) c.event_at.result c.event_at.ensures.value c.in-Err.cause (c.in-Err.ensures.cause other)

pub returns-clause-ok : goal.returns-clause-ok
returns-clause-ok g c = λ start stands reached.
    let all : c.events.i ≡ length c.args.events.now = omega arith in
    subst (λ (n : ℕ). HasPlayed start c.args.events.now n c.args.counters.now.steps c.events.counters.steps c.events.world) all
    (c.events.invariant start stands reached)
