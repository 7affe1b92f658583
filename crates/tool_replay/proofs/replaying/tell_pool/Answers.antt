use Rattle.std.proofs.Common.{refl, true}
use Rattle.tool_run.specs.Streams.{Counters}
use Rattle.tool_run.proofs.Writing.{Writes-same}
use Rattle.tool_replay.proofs.NetworkSolved.{Attempts-no_pool, Attempts-told, Attempts-unsolved, HasSolved-finish, pool_of_world}
use Rattle.tool_replay.proofs.replaying.tell_pool.Goals as goal

pub returns-in_err-write_pool : goal.returns-in_err-write_pool
returns-in_err-write_pool g c = λ both before after script first p.
    let mid = c.args.counters.now.steps in
    let now : Counters = record { coefficients = c.args.counters.now.coef_steps; payloads = c.args.counters.now.steps } in
    Attempts-no_pool before after script first.payloads mid c.args.world p both
    (g.O.Sink.state c.args.output.now) (g.O.Sink.state c.write_pool.new.output) first now c.in_err-write_pool.field-0.0 _ c.from_residual.ensures.1
    (Writes-same (pool_of_world before after script first.payloads mid c.args.world p c.args.session.now c.requires.session) c.in_err-write_pool.ensures)

pub returns-in_err-solved : goal.returns-in_err-solved
returns-in_err-solved g c = λ both before after script first p.
    let mid = c.args.counters.now.steps in
    let now : Counters = record { coefficients = c.finish.new.coef_steps; payloads = c.finish.new.steps } in
    Attempts-unsolved before after script first.payloads mid c.args.world p both
    (g.O.Sink.state c.args.output.now) (g.O.Sink.state c.write_pool.new.output) first now _ c.from_residual-in_err-solved.ensures.1
    (Writes-same (pool_of_world before after script first.payloads mid c.args.world p c.args.session.now c.requires.session) c.in_ok-write_pool.ensures)

pub returns-in_err-finish_of : goal.returns-in_err-finish_of
returns-in_err-finish_of g c = λ both before after script first p.
    let mid = c.args.counters.now.steps in
    let now : Counters = record { coefficients = c.finish.new.coef_steps; payloads = c.finish.new.steps } in
    Attempts-unsolved before after script first.payloads mid c.args.world p both
    (g.O.Sink.state c.args.output.now) (g.O.Sink.state c.write_pool.new.output) first now _ c.from_residual-in_err-finish_of.ensures.1
    (Writes-same (pool_of_world before after script first.payloads mid c.args.world p c.args.session.now c.requires.session) c.in_ok-write_pool.ensures)

pub returns : goal.returns
returns g c = λ both before after script first p.
    let s = c.in_ok-solved.solved in
    let e = c.in_ok-solved.ensures in
    let mid = c.args.counters.now.steps in
    let now : Counters = record { coefficients = c.finish.new.coef_steps; payloads = c.finish.new.steps } in
    Attempts-told before after script first.payloads mid c.args.world p both true s.answer s.packets s.kept s.inactive c.finish.new.steps
    (HasSolved-finish before after script first.payloads mid c.args.world p s.answer s.packets s.kept s.inactive _ c.finish.new.steps
    e.right e.honest e.packets e.kept e.inactive e.bound e.counted)
    (g.O.Sink.state c.args.output.now) (g.O.Sink.state c.write_pool.new.output) first now c.in_ok-finish_of.field-0 refl refl
    c.in_ok-finish_of.ensures.status c.in_ok-finish_of.ensures.line
    (Writes-same (pool_of_world before after script first.payloads mid c.args.world p c.args.session.now c.requires.session) c.in_ok-write_pool.ensures)
