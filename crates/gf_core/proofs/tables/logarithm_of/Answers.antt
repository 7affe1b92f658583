use Rattle.std.proofs.Common.{arith}
use Rattle.gf_core.proofs.PowerLemmas.{get_or-LOGARITHMS}
use Rattle.gf_core.proofs.tables.logarithm_of.Goals as goal

pub returns-clause-below : goal.returns-clause-below
returns-clause-below c = (get_or-LOGARITHMS c.args.byte (omega arith) c.requires).0

pub returns-clause-power : goal.returns-clause-power
returns-clause-power c = (get_or-LOGARITHMS c.args.byte (omega arith) c.requires).1
