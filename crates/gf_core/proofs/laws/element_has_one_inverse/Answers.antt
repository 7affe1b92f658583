use Rattle.gf_core.proofs.InverseLemmas.{inverse_exists, inverse_unique}
use Rattle.gf_core.proofs.laws.element_has_one_inverse.Goals as goal

pub returns-clause-exists : goal.returns-clause-exists
returns-clause-exists c = inverse_exists

pub returns-clause-unique : goal.returns-clause-unique
returns-clause-unique c = inverse_unique
