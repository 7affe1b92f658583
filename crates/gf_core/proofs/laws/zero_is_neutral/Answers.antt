use Rattle.gf_core.proofs.AddLemmas.{zero-gf_add, gf_add-zero}
use Rattle.gf_core.proofs.laws.zero_is_neutral.Goals as goal

pub returns-clause-left : goal.returns-clause-left
returns-clause-left c = zero-gf_add

pub returns-clause-right : goal.returns-clause-right
returns-clause-right c = gf_add-zero
