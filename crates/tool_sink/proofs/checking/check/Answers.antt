use Rattle.tool_run.specs.Streams.{Counters, Ends}
use Rattle.tool_run.proofs.Attempts.{Attempts-exit}
use Rattle.tool_sink.specs.Check.{check_promise}
use Rattle.tool_sink.proofs.ReceivedInputs.{ReceivesAll-all, ReceivesAll-ended}
use Rattle.tool_sink.proofs.ToldEndings.{check-stopped, check-told}
use Rattle.tool_sink.proofs.checking.check.Goals as goal

pub returns-in_err-intake : goal.returns-in_err-intake
returns-in_err-intake g c =
    let before : Ends = record { input = g.S.Source.state c.args.input.now; output = g.O.Sink.state c.args.output.now } in
    let after : Ends = record { input = g.S.Source.state c.receive_all.new.input; output = g.O.Sink.state c.receive_all.new.output } in
    let given : Counters = record { coefficients = c.args.counters.now.coef_steps; payloads = c.args.counters.now.steps } in
    let now : Counters = record { coefficients = c.receive_all.new.counters.coef_steps; payloads = c.receive_all.new.counters.steps } in
    Attempts-exit check_promise before after given now c.in_err-intake.field-0.0 _ c.from_residual.ensures.1
    (check-stopped before after _ c.in_err-intake.ensures.as_far given now)

pub returns-in-Whole : goal.returns-in-Whole
returns-in-Whole g c =
    let before : Ends = record { input = g.S.Source.state c.args.input.now; output = g.O.Sink.state c.args.output.now } in
    let after : Ends = record { input = g.S.Source.state c.receive_all.new.input; output = g.O.Sink.state c.receive_all.new.output } in
    let given : Counters = record { coefficients = c.args.counters.now.coef_steps; payloads = c.args.counters.now.steps } in
    let now : Counters = record { coefficients = c.write_lines.new.counters.coef_steps; payloads = c.write_lines.new.counters.steps } in
    check-told c.in-Whole.intake given now c.receive_all.new.counters.steps before after
    (ReceivesAll-all given.payloads c.receive_all.new.counters.steps before after c.in_ok-intake.field-0 c.in-Whole.intake c.in-Whole.is c.in_ok-intake.ensures)
    (g.O.Sink.state c.write_lines.new.output) c.write_lines.result c.write_lines.ensures

pub returns-in-Ended : goal.returns-in-Ended
returns-in-Ended g c =
    let before : Ends = record { input = g.S.Source.state c.args.input.now; output = g.O.Sink.state c.args.output.now } in
    let after : Ends = record { input = g.S.Source.state c.receive_all.new.input; output = g.O.Sink.state c.receive_all.new.output } in
    let given : Counters = record { coefficients = c.args.counters.now.coef_steps; payloads = c.args.counters.now.steps } in
    let now : Counters = record { coefficients = c.receive_all.new.counters.coef_steps; payloads = c.receive_all.new.counters.steps } in
    check-stopped before after _
    (ReceivesAll-ended given.payloads now.payloads before after c.in_ok-intake.field-0 c.in-Ended.finish c.in-Ended.is c.in_ok-intake.ensures) given now
