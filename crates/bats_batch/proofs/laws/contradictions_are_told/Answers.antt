use Rattle.bats_batch.proofs.Contradictions.{no_contradiction, contradictions-grow}
use Rattle.bats_batch.proofs.laws.contradictions_are_told.Goals as goal

pub returns-clause-none : goal.returns-clause-none
returns-clause-none c = no_contradiction

pub returns-clause-grow : goal.returns-clause-grow
returns-clause-grow c packets packet held stands = contradictions-grow packets packet held stands
