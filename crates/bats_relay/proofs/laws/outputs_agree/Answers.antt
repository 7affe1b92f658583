use Rattle.bats_relay.proofs.OutputRows.{HasShape-output}
use Rattle.bats_relay.proofs.OutputAgreement.{Agrees-output, Agrees-taken, AgreesWithAll-outputs}
use Rattle.bats_relay.proofs.laws.outputs_agree.Goals as goal

pub returns-clause-shape : goal.returns-clause-shape
returns-clause-shape c = HasShape-output

pub returns-clause-kept : goal.returns-clause-kept
returns-clause-kept c = Agrees-output

pub returns-clause-taken : goal.returns-clause-taken
returns-clause-taken c = Agrees-taken

pub returns-clause-lists : goal.returns-clause-lists
returns-clause-lists c = AgreesWithAll-outputs
