use Rattle.gf_core.proofs.ProductLemmas.{gf_mul-gf_add_left, gf_mul-gf_add}
use Rattle.gf_core.proofs.laws.products_spread_over_sums.Goals as goal

pub returns-clause-left : goal.returns-clause-left
returns-clause-left c = gf_mul-gf_add_left

pub returns-clause-right : goal.returns-clause-right
returns-clause-right c = gf_mul-gf_add
