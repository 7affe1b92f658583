use Rattle.tool_run.specs.Streams.{Counters, Ends}
use Rattle.tool_run.proofs.Attempts.{Attempts-exit}
use Rattle.tool_sink.specs.Sink.{sink_promise}
use Rattle.tool_sink.proofs.ReceivedInputs.{ReceivesAll-all, ReceivesAll-ended}
use Rattle.tool_sink.proofs.ToldEndings.{sink-stopped, sink-told}
use Rattle.tool_sink.proofs.sinking.sink.Goals as goal

pub returns-in_err-intake : goal.returns-in_err-intake
returns-in_err-intake g c =
    let before : Ends = record { input = g.S.Source.state c.args.input.now; output = g.O.Sink.state c.args.output.now } in
    let after : Ends = record { input = g.S.Source.state c.receive_all.new.input; output = g.O.Sink.state c.receive_all.new.output } in
    let given : Counters = record { coefficients = c.args.counters.now.coef_steps; payloads = c.args.counters.now.steps } in
    let now : Counters = record { coefficients = c.receive_all.new.counters.coef_steps; payloads = c.receive_all.new.counters.steps } in
    Attempts-exit (sink_promise c.args.both) before after given now c.in_err-intake.field-0.0 _ c.from_residual.ensures.1
    (sink-stopped c.args.both before after _ c.in_err-intake.ensures.as_far given now)

pub returns-in-Whole : goal.returns-in-Whole
returns-in-Whole g c =
    let before : Ends = record { input = g.S.Source.state c.args.input.now; output = g.O.Sink.state c.args.output.now } in
    let after : Ends = record { input = g.S.Source.state c.receive_all.new.input; output = g.O.Sink.state c.receive_all.new.output } in
    let given : Counters = record { coefficients = c.args.counters.now.coef_steps; payloads = c.args.counters.now.steps } in
    let now : Counters = record { coefficients = c.write_file.new.counters.coef_steps; payloads = c.write_file.new.counters.steps } in
    sink-told c.in-Whole.intake given now c.receive_all.new.counters.steps before after
    (ReceivesAll-all given.payloads c.receive_all.new.counters.steps before after c.in_ok-intake.field-0 c.in-Whole.intake c.in-Whole.is c.in_ok-intake.ensures) c.args.both
    (g.O.Sink.state c.write_file.new.output) c.write_file.result c.write_file.ensures

pub returns-in-Ended : goal.returns-in-Ended
returns-in-Ended g c =
    let before : Ends = record { input = g.S.Source.state c.args.input.now; output = g.O.Sink.state c.args.output.now } in
    let after : Ends = record { input = g.S.Source.state c.receive_all.new.input; output = g.O.Sink.state c.receive_all.new.output } in
    let given : Counters = record { coefficients = c.args.counters.now.coef_steps; payloads = c.args.counters.now.steps } in
    let now : Counters = record { coefficients = c.receive_all.new.counters.coef_steps; payloads = c.receive_all.new.counters.steps } in
    sink-stopped c.args.both before after _
    (ReceivesAll-ended given.payloads now.payloads before after c.in_ok-intake.field-0 c.in-Ended.finish c.in-Ended.is c.in_ok-intake.ensures) given now
