use Rattle.gf_core.proofs.ProductLemmas.{gf_mul_assoc}
use Rattle.gf_core.proofs.laws.product_is_associative.Goals as goal

pub returns : goal.returns
returns c = λ a b c p q r. gf_mul_assoc a b c q r
