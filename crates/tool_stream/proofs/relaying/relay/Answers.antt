use Rattle.std.proofs.Common.{◌∙◌, sym, Ok, Err}
use Rattle.tool_run.specs.declared.stop.Stop.{Stop}
use Rattle.tool_run.specs.Streams.{Ends}
use Rattle.tool_run.proofs.Attempts.{AttemptsUncounted-exit}
use Rattle.tool_stream.specs.Relay.{relay_promise}
use Rattle.tool_stream.proofs.RelayWalks.{Attempts-seed, Attempts-sent, relay-stopped, relay-unopened, stopped_kept, whole_kept}
use Rattle.tool_stream.proofs.relaying.relay.Goals as goal

pub returns-in-Err : goal.returns-in-Err
returns-in-Err g c =
    let before : Ends = (record { input = g.S.Source.state c.args.input.now; output = g.O.Sink.state c.args.output.now }) in
    relay-unopened c.args.seed c.args.extra c.args.count before (g.S.Source.state c.open.new.source) c.in-Err.end _ c.in-Err.ensures c.unopened.ensures

pub returns-in_err-keep_all : goal.returns-in_err-keep_all
returns-in_err-keep_all g c =
    let before : Ends = (record { input = g.S.Source.state c.args.input.now; output = g.O.Sink.state c.args.output.now }) in
    let after : Ends = (record { input = g.S.Source.state c.keep_all.new.input; output = g.O.Sink.state c.keep_all.new.output }) in
    let stop : Stop = c.in_err-keep_all.field-0.0 in
    AttemptsUncounted-exit (relay_promise c.args.seed c.args.extra c.args.count) before after stop _ c.from_residual.ensures.1
    (relay-stopped c.args.seed c.args.extra c.args.count before after (Err stop)
    (c.in_err-keep_all.ensures (g.S.Source.state c.args.input.now) c.in-Ok.ensures).as_far)

pub returns-in-None : goal.returns-in-None
returns-in-None g c =
    let before : Ends = (record { input = g.S.Source.state c.args.input.now; output = g.O.Sink.state c.args.output.now }) in
    let after : Ends = (record { input = g.S.Source.state c.keep_all.new.input; output = g.O.Sink.state c.keep_all.new.output }) in
    let seed = c.new.result.mixer.seed in
    let intake = c.keep_all.new.keeper.holder in
    let whole = whole_kept seed intake c.args.counters.now.steps c.keep_all.new.counters.steps before after c.in_ok-keep_all.field-0 c.in-None.is
    (c.in_ok-keep_all.ensures (g.S.Source.state c.args.input.now) c.in-Ok.ensures) in
    Attempts-seed c.args.seed seed c.args.extra c.args.count before _ _ c.new.ensures.seed
    (Attempts-sent seed c.args.extra c.args.count intake c.args.counters.now.steps c.keep_all.new.counters.steps before after
    (g.O.Sink.state c.send_all.new.output) c.send_all.result whole (c.send_all.ensures seed))

pub returns-in-Some : goal.returns-in-Some
returns-in-Some g c =
    let before : Ends = (record { input = g.S.Source.state c.args.input.now; output = g.O.Sink.state c.args.output.now }) in
    let after : Ends = (record { input = g.S.Source.state c.keep_all.new.input; output = g.O.Sink.state c.keep_all.new.output }) in
    let seed = c.new.result.mixer.seed in
    let intake = c.keep_all.new.keeper.holder in
    relay-stopped c.args.seed c.args.extra c.args.count before after (Ok c.in-Some.finish)
    (stopped_kept seed intake c.args.counters.now.steps c.keep_all.new.counters.steps before after c.in_ok-keep_all.field-0 c.in-Some.finish c.in-Some.is
    (c.in_ok-keep_all.ensures (g.S.Source.state c.args.input.now) c.in-Ok.ensures))

pub send_all-requires-clause-session : goal.send_all-requires-clause-session
send_all-requires-clause-session g c =
    let before : Ends = (record { input = g.S.Source.state c.args.input.now; output = g.O.Sink.state c.args.output.now }) in
    let after : Ends = (record { input = g.S.Source.state c.keep_all.new.input; output = g.O.Sink.state c.keep_all.new.output }) in
    let whole = whole_kept c.new.result.mixer.seed c.keep_all.new.keeper.holder c.args.counters.now.steps c.keep_all.new.counters.steps before after
    c.in_ok-keep_all.field-0 c.in-None.is (c.in_ok-keep_all.ensures (g.S.Source.state c.args.input.now) c.in-Ok.ensures) in
    whole.given.as_far.held.held_session ∙ sym whole.given.as_far.held.session_is

pub send_all-requires-clause-unsent : goal.send_all-requires-clause-unsent
send_all-requires-clause-unsent g c =
    let before : Ends = (record { input = g.S.Source.state c.args.input.now; output = g.O.Sink.state c.args.output.now }) in
    let after : Ends = (record { input = g.S.Source.state c.keep_all.new.input; output = g.O.Sink.state c.keep_all.new.output }) in
    let whole = whole_kept c.new.result.mixer.seed c.keep_all.new.keeper.holder c.args.counters.now.steps c.keep_all.new.counters.steps before after
    c.in_ok-keep_all.field-0 c.in-None.is (c.in_ok-keep_all.ensures (g.S.Source.state c.args.input.now) c.in-Ok.ensures) in
    whole.given.as_far.held.unsent
