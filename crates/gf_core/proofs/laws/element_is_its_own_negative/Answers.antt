use Rattle.gf_core.proofs.AddLemmas.{gf_add_self}
use Rattle.gf_core.proofs.laws.element_is_its_own_negative.Goals as goal

pub returns : goal.returns
returns c = gf_add_self
