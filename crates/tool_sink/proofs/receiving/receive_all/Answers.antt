use Rattle.tool_run.specs.Streams.{Ends}
use Rattle.tool_records.specs.Keeping.{StopsKeeping}
use Rattle.tool_records.proofs.Keepers.{Attempts-unopened}
use Rattle.tool_sink.proofs.ReceivedInputs.{ReceivesAll-cut, ReceivesAll-unopened}
use Rattle.tool_sink.proofs.receiving.receive_all.Goals as goal

pub returns-in_err-unopened-in-Err : goal.returns-in_err-unopened-in-Err
returns-in_err-unopened-in-Err g c =
    let before : Ends = record { input = g.S.Source.state c.args.input.now; output = g.O.Sink.state c.args.output.now } in
    let after : Ends = record { input = g.S.Source.state c.open.new.source; output = g.O.Sink.state c.args.output.now } in
    ReceivesAll-cut c.args.counters.now.steps c.args.counters.now.steps before after c.in_err-unopened-in-Err.field-0.0 _ c.from_residual.ensures.1
    (Attempts-unopened StopsKeeping (λ input ending stops. stops) before (g.S.Source.state c.open.new.source) c.in-Err.end _ c.in-Err.ensures c.in_err-unopened-in-Err.ensures)

pub returns-in-Err : goal.returns-in-Err
returns-in-Err g c =
    let before : Ends = record { input = g.S.Source.state c.args.input.now; output = g.O.Sink.state c.args.output.now } in
    let after : Ends = record { input = g.S.Source.state c.open.new.source; output = g.O.Sink.state c.args.output.now } in
    ReceivesAll-unopened c.args.counters.now.steps c.args.counters.now.steps before after c.in_ok-unopened-in-Err.field-0
    (Attempts-unopened StopsKeeping (λ input ending stops. stops) before (g.S.Source.state c.open.new.source) c.in-Err.end _ c.in-Err.ensures c.in_ok-unopened-in-Err.ensures)
