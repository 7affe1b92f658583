use Rattle.std.proofs.Common.{◌*◌, ◌/◌, length, arith}
use Rattle.gf_rows.proofs.LaneLemmas.{scale_in_parts}
use Rattle.gf_rows.proofs.kernels.scale_by_rounds.Goals as goal

pub returns : goal.returns
returns c =
    scale_in_parts c.args.c (length c.args.row.now / 16 * 16) c.args.row.now c.scale_row.new.row c.scale_row-2.new.row (omega arith)
    c.scale_row.ensures c.scale_row-2.ensures
