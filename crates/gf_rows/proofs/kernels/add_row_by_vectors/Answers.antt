use Rattle.std.proofs.Common.{◌*◌, ◌/◌, length, arith}
use Rattle.gf_rows.proofs.LaneLemmas.{sum_in_parts}
use Rattle.gf_rows.proofs.kernels.add_row_by_vectors.Goals as goal

pub returns : goal.returns
returns c =
    sum_in_parts (length c.args.dst.now / 32 * 32) c.args.dst.now c.args.src.now c.add_row.new.dst c.add_row-2.new.dst (omega arith) c.requires
    c.add_row.ensures c.add_row-2.ensures
