use Rattle.gf_core.proofs.AddLemmas.{gf_add-lt}
use Rattle.gf_core.proofs.ProductLemmas.{gf_mul-lt}
use Rattle.gf_core.proofs.laws.sums_and_products_are_elements.Goals as goal

pub returns-clause-sum : goal.returns-clause-sum
returns-clause-sum c = gf_add-lt

pub returns-clause-product : goal.returns-clause-product
returns-clause-product c = λ a b p q. gf_mul-lt a b q
