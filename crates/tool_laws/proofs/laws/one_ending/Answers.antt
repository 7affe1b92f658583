use Rattle.std.proofs.Common.{sym, ◌∙◌}
use Rattle.tool_laws.proofs.OneReading.{one_show}
use Rattle.tool_laws.proofs.OneRelay.{one_relay}
use Rattle.tool_laws.proofs.OneAnswer.{one_check, one_sink}
use Rattle.tool_laws.proofs.OneNetwork.{one_pool, one_replay, one_trial}
use Rattle.tool_laws.proofs.laws.one_ending.Goals as goal

pub returns-clause-nothing : goal.returns-clause-nothing
returns-clause-nothing c = λ end input ending other h k. h ∙ sym k

pub returns-clause-source : goal.returns-clause-source
returns-clause-source c = λ options input ending other h k. h ∙ sym k

pub returns-clause-sink : goal.returns-clause-sink
returns-clause-sink c = one_sink

pub returns-clause-check : goal.returns-clause-check
returns-clause-check c = one_check

pub returns-clause-show : goal.returns-clause-show
returns-clause-show c = one_show

pub returns-clause-relay : goal.returns-clause-relay
returns-clause-relay c = one_relay

pub returns-clause-replay : goal.returns-clause-replay
returns-clause-replay c = one_replay

pub returns-clause-pool : goal.returns-clause-pool
returns-clause-pool c = one_pool

pub returns-clause-trial : goal.returns-clause-trial
returns-clause-trial c = λ options input. one_trial options
