use Rattle.gf_rows.proofs.LaneLemmas.{double_lanes}
use Rattle.gf_rows.proofs.rounds.doubled.Goals as goal

pub returns : goal.returns
returns c = double_lanes 16 c.args.v c.fits-v.0 c.fits-v.1
