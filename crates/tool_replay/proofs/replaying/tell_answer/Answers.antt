use Rattle.std.proofs.Common.{refl, false}
use Rattle.tool_run.specs.Streams.{Counters}
use Rattle.tool_replay.proofs.NetworkSolved.{Attempts-no_answer, Attempts-told, HasSolved-finish}
use Rattle.tool_replay.proofs.ScriptsRead.{Attempts-unplayed}
use Rattle.tool_replay.proofs.replaying.tell_answer.Goals as goal

pub returns-in_err-solved : goal.returns-in_err-solved
returns-in_err-solved g c = λ before after script first p.
    let now : Counters = record { coefficients = c.finish.new.coef_steps; payloads = c.finish.new.steps } in
    Attempts-unplayed c.args.both false before after (g.O.Sink.state c.args.output.now) first now script _ p.source c.from_residual.ensures.1

pub returns-in_err-finish : goal.returns-in_err-finish
returns-in_err-finish g c = λ before after script first p.
    let now : Counters = record { coefficients = c.finish.new.coef_steps; payloads = c.finish.new.steps } in
    Attempts-unplayed c.args.both false before after (g.O.Sink.state c.args.output.now) first now script _ p.source
    c.from_residual-in_err-finish.ensures.1

pub returns-in_err-write_answer : goal.returns-in_err-write_answer
returns-in_err-write_answer g c = λ before after script first p.
    let s = c.in_ok-solved.solved in
    let e = c.in_ok-solved.ensures in
    let mid = c.args.counters.now.steps in
    let now : Counters = record { coefficients = c.finish.new.coef_steps; payloads = c.finish.new.steps } in
    Attempts-no_answer before after script first.payloads mid c.args.world p c.args.both s.answer s.packets s.kept s.inactive c.finish.new.steps
    (HasSolved-finish before after script first.payloads mid c.args.world p s.answer s.packets s.kept s.inactive _ c.finish.new.steps
    e.right e.honest e.packets e.kept e.inactive e.bound e.counted)
    (g.O.Sink.state c.args.output.now) (g.O.Sink.state c.write_answer.new.output) first now c.in_err-write_answer.field-0.0 _
    c.from_residual-in_err-write_answer.ensures.1 c.in_err-write_answer.ensures

pub returns : goal.returns
returns g c = λ before after script first p.
    let s = c.in_ok-solved.solved in
    let e = c.in_ok-solved.ensures in
    let mid = c.args.counters.now.steps in
    let now : Counters = record { coefficients = c.finish.new.coef_steps; payloads = c.finish.new.steps } in
    Attempts-told before after script first.payloads mid c.args.world p c.args.both false s.answer s.packets s.kept s.inactive c.finish.new.steps
    (HasSolved-finish before after script first.payloads mid c.args.world p s.answer s.packets s.kept s.inactive _ c.finish.new.steps
    e.right e.honest e.packets e.kept e.inactive e.bound e.counted)
    (g.O.Sink.state c.args.output.now) (g.O.Sink.state c.write_answer.new.output) first now c.in_ok-finish.finish refl refl
    c.in_ok-finish.ensures.status c.in_ok-finish.ensures.line c.in_ok-write_answer.ensures
