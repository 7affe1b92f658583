use Rattle.std.proofs.Common.{◌*◌, ◌/◌, length, arith}
use Rattle.gf_rows.proofs.LaneLemmas.{scale_in_parts}
use Rattle.gf_rows.proofs.kernels.scale_by_vectors.Goals as goal

pub returns : goal.returns
returns c =
    scale_in_parts c.args.c (length c.args.row.now / 32 * 32) c.args.row.now c.scale_row.new.row c.scale_short.new.row (omega arith)
    c.scale_row.ensures c.scale_short.ensures
