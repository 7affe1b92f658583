use Rattle.bats_peel.proofs.StuckSets.{stuck-subset}
use Rattle.bats_peel.proofs.laws.stuck_sets_grow.Goals as goal

pub returns : goal.returns
returns c = stuck-subset
