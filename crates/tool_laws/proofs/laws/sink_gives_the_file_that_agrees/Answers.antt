use Rattle.tool_laws.proofs.GivenBack.{gives_back, done_or_nothing}
use Rattle.tool_laws.proofs.laws.sink_gives_the_file_that_agrees.Goals as goal

pub returns-clause-file : goal.returns-clause-file
returns-clause-file c = gives_back

pub returns-clause-or_nothing : goal.returns-clause-or_nothing
returns-clause-or_nothing c = done_or_nothing
