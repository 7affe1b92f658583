use Rattle.gf_core.proofs.ProductLemmas.{one-gf_mul, gf_mul-one}
use Rattle.gf_core.proofs.laws.one_is_neutral.Goals as goal

pub returns-clause-left : goal.returns-clause-left
returns-clause-left c = one-gf_mul

pub returns-clause-right : goal.returns-clause-right
returns-clause-right c = gf_mul-one
