use Rattle.tool_replay.proofs.ToldTrials.{Attempts-lacking}
use Rattle.tool_replay.proofs.trialing.trial.Goals as goal

pub returns-in_err-packets : goal.returns-in_err-packets
returns-in_err-packets g c input =
    Attempts-lacking c.args.options.now input (g.O.Sink.state c.args.output.now) _ _ _ c.from_residual.ensures.1
