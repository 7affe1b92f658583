use Rattle.tool_laws.proofs.OneAnswer.{check_as_sink}
use Rattle.tool_laws.proofs.laws.check_ends_as_sink_does.Goals as goal

pub returns : goal.returns
returns c = check_as_sink
