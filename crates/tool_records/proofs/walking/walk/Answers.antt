use Rattle.tool_run.specs.Streams.{Ends}
use Rattle.tool_records.proofs.WalkSteps.{Walks-unopened}
use Rattle.tool_records.proofs.walking.walk.Goals as goal

pub returns-in-Err : goal.returns-in-Err
returns-in-Err g c =
    let before : Ends = (record { input = g.S.Source.state c.args.input.now; output = g.O.Sink.state c.args.output.now }) in
    Walks-unopened (g.T.Taker.gives c.args.taker.now c.args.tools.now c.args.taker.now c.args.tools.now) before
    _ c.in-Err.end _ c.ending_of.ensures c.requires c.in-Err.ensures
