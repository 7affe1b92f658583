use Rattle.bats_batch.proofs.HeldAgreement.{held-agreement}
use Rattle.bats_batch.proofs.laws.held_batches_stand_for_all.Goals as goal

pub returns : goal.returns
returns c = held-agreement
