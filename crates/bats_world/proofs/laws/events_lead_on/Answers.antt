use Rattle.bats_world.proofs.Reaching.{IsReached-opening, IsReached-more, same-network}
use Rattle.bats_world.proofs.laws.events_lead_on.Goals as goal

pub returns-clause-opening : goal.returns-clause-opening
returns-clause-opening c = IsReached-opening

pub returns-clause-more : goal.returns-clause-more
returns-clause-more c = IsReached-more

pub returns-clause-same : goal.returns-clause-same
returns-clause-same c = same-network
