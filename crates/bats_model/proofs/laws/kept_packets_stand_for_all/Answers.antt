use Rattle.bats_model.proofs.KeptAgreement.{kept-agreement}
use Rattle.bats_model.proofs.laws.kept_packets_stand_for_all.Goals as goal

pub returns : goal.returns
returns c = kept-agreement
