use Rattle.std.proofs.Common.{map}
use Rattle.std.specs.Prelude.{string_bytes}
use Rattle.tool_run.proofs.Outcomes.{RunsBy-concluded}
use Rattle.bats_words.specs.Words.{command_of}
use Rattle.bats_tool.specs.Promises.{promise_of}
use Rattle.bats_tool.proofs.PromisesKept.{promise_of-keeps}
use Rattle.bats_tool.proofs.run.run.Goals as goal

pub returns : goal.returns
returns g c =
    let command = command_of (map string_bytes c.args.words.now.items) in
    RunsBy-concluded (promise_of command) (promise_of-keeps command) _ _
    (g.O.Sink.state c.conclude.new.output) (g.N.Sink.state c.args.notes.now) (g.N.Sink.state c.conclude.new.notes) _ _
    c.attempt-ending.result c.conclude.result c.attempt-ending.ensures c.conclude.ensures
