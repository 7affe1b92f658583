use Rattle.gf_core.proofs.AddLemmas.{gf_add_assoc}
use Rattle.gf_core.proofs.laws.sum_is_associative.Goals as goal

pub returns : goal.returns
returns c = gf_add_assoc
