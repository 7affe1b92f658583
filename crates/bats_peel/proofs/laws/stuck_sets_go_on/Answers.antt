use Rattle.bats_peel.proofs.StuckSets.{goes_on}
use Rattle.bats_peel.proofs.laws.stuck_sets_go_on.Goals as goal

pub returns : goal.returns
returns c = goes_on
