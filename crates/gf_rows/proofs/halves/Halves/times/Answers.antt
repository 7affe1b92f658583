use Rattle.gf_rows.proofs.LaneLemmas.{low_places, high_places, products_of_lanes}
use Rattle.gf_rows.proofs.halves.Halves.times.Goals as goal

pub swizzle : goal.swizzle
swizzle c = low_places c.args.v c.fits-v

pub swizzle-2 : goal.swizzle-2
swizzle-2 c = high_places c.args.v c.fits-v

pub returns : goal.returns
returns c factor are = products_of_lanes factor c.args.self.low c.args.self.high c.args.v are c.fits-v
