use Rattle.std.proofs.Common.{◌*◌, ◌/◌, length, arith}
use Rattle.gf_rows.proofs.LaneLemmas.{add_in_parts}
use Rattle.gf_rows.proofs.kernels.add_by_vectors.Goals as goal

pub returns : goal.returns
returns c =
    add_in_parts c.args.c (length c.args.dst.now / 32 * 32) c.args.dst.now c.args.src.now c.add_scaled.new.dst c.add_short.new.dst (omega arith) c.requires
    c.add_scaled.ensures c.add_short.ensures
