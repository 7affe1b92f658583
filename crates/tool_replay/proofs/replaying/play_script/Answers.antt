use Rattle.std.proofs.Common.{◌≡◌, ◌∙◌, subst}
use Rattle.std.specs.Result.{IsErrAnd}
use Rattle.bats_world.specs.World.{NetworkState, opening}
use Rattle.bats_world.proofs.Reaching.{IsReached-opening}
use Rattle.tool_run.specs.declared.stop.Stop.{Stop}
use Rattle.tool_run.specs.Streams.{Counters}
use Rattle.tool_replay.proofs.ScriptsRead.{Attempts-obstacle, Attempts-unplayed}
use Rattle.tool_replay.proofs.replaying.play_script.Goals as goal

pub returns-in_err-world : goal.returns-in_err-world
returns-in_err-world g c = λ before after read.
    let given : Counters = record { coefficients = c.args.counters.now.coef_steps; payloads = c.args.counters.now.steps } in
    Attempts-unplayed c.args.both c.args.pool before after (g.O.Sink.state c.args.output.now) given given c.args.script c.from_residual.result read
    (subst (λ (s : Stop). IsErrAnd c.from_residual.result (λ e. e ≡ s)) c.in_err-world.ensures.stop c.from_residual.ensures.1)

pub tell-requires-clause-session : goal.tell-requires-clause-session
tell-requires-clause-session g c _ _ =
    let script = c.args.script in
    let start : NetworkState = opening script.session script.file script.relay_seeds script.links in
    let p = c.in-Ok.ensures.ok start c.in_ok-world.ensures.stands
    (IsReached-opening script.session script.file script.relay_seeds script.links) in
    p.stands.session ∙ p.same.session

pub returns-in-Ok : goal.returns-in-Ok
returns-in-Ok g c = λ before after read.
    let script = c.args.script in
    let start : NetworkState = opening script.session script.file script.relay_seeds script.links in
    c.tell.ensures before after script (record { coefficients = c.args.counters.now.coef_steps; payloads = c.args.counters.now.steps }) (record {
      source = read;
      is_file = record { size = c.requires.sound.file; bytes = c.as_slice-bytes.ensures.bytes };
      few = c.in-Ok.ensures.few;
      played = c.in-Ok.ensures.ok start c.in_ok-world.ensures.stands
          (IsReached-opening script.session script.file script.relay_seeds script.links);
    })

pub returns : goal.returns
returns g c = λ before after read.
    let given : Counters = record { coefficients = c.args.counters.now.coef_steps; payloads = c.args.counters.now.steps } in
    let now : Counters = record { coefficients = c.play.new.counters.coef_steps; payloads = c.play.new.counters.steps } in
    let script = c.args.script in
    let start : NetworkState = opening script.session script.file script.relay_seeds script.links in
    Attempts-obstacle c.args.both c.args.pool before after (g.O.Sink.state c.args.output.now) given now script c.in-Err.obstacle.number c.in-Err.obstacle.cause
    c.at_obstacle.result read
    (λ other. c.in-Err.ensures.err other start c.in_ok-world.ensures.stands
    (IsReached-opening script.session script.file script.relay_seeds script.links))
    c.at_obstacle.ensures.status c.at_obstacle.ensures.line c.at_obstacle.ensures.told c.at_obstacle.ensures.stop
