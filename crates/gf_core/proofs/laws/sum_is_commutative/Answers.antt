use Rattle.gf_core.proofs.AddLemmas.{gf_add_comm}
use Rattle.gf_core.proofs.laws.sum_is_commutative.Goals as goal

pub returns : goal.returns
returns c = gf_add_comm
