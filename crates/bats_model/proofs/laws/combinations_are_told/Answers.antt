use Rattle.bats_model.proofs.NewPackets.{is_combination-Decides}
use Rattle.bats_model.proofs.laws.combinations_are_told.Goals as goal

pub returns : goal.returns
returns c = is_combination-Decides
