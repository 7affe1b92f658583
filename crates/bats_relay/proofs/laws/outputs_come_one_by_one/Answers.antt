use Rattle.bats_relay.proofs.OutputAgreement.{relay_outputs-more}
use Rattle.bats_relay.proofs.laws.outputs_come_one_by_one.Goals as goal

pub returns-clause-more : goal.returns-clause-more
returns-clause-more c = relay_outputs-more
