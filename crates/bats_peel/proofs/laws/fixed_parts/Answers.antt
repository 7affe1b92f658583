use Rattle.bats_peel.proofs.FixedContributors.{Fixes-subset}
use Rattle.bats_peel.proofs.laws.fixed_parts.Goals as goal

pub returns : goal.returns
returns c = Fixes-subset
