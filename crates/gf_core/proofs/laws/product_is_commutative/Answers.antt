use Rattle.gf_core.proofs.ProductLemmas.{gf_mul_comm}
use Rattle.gf_core.proofs.laws.product_is_commutative.Goals as goal

pub returns : goal.returns
returns c = gf_mul_comm
