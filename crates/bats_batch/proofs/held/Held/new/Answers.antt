use Rattle.bats_batch.proofs.Offers.{StandsFor-none}
use Rattle.bats_batch.proofs.held.Held.new.Goals as goal

pub returns-clause-stands : goal.returns-clause-stands
returns-clause-stands c = StandsFor-none c.args.session c.new.result.items c.new.ensures.items
