use Rattle.bats_peel.proofs.StuckSets.{one_stuck}
use Rattle.bats_peel.proofs.laws.one_stuck_set.Goals as goal

pub returns : goal.returns
returns c = one_stuck
