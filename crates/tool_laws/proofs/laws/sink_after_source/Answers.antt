use Rattle.tool_laws.proofs.SourceAndSink.{given_back, comes_back_whole}
use Rattle.tool_laws.proofs.laws.sink_after_source.Goals as goal

pub returns-clause-no_other : goal.returns-clause-no_other
returns-clause-no_other c = given_back

pub returns-clause-whole : goal.returns-clause-whole
returns-clause-whole c = comes_back_whole
