use Rattle.gf_core.proofs.PowerLemmas.{get_or-POWERS}
use Rattle.gf_core.proofs.tables.power_of_x.Goals as goal

pub returns : goal.returns
returns c = get_or-POWERS c.args.exponent c.requires
