use Rattle.bats_peel.proofs.InactiveLists.{one_list}
use Rattle.bats_peel.proofs.laws.one_inactive_list.Goals as goal

pub returns : goal.returns
returns c = one_list
