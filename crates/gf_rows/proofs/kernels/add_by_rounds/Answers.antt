use Rattle.std.proofs.Common.{◌*◌, ◌/◌, length, arith}
use Rattle.gf_rows.proofs.LaneLemmas.{add_in_parts}
use Rattle.gf_rows.proofs.kernels.add_by_rounds.Goals as goal

pub returns : goal.returns
returns c =
    add_in_parts c.args.c (length c.args.dst.now / 16 * 16) c.args.dst.now c.args.src.now c.add_scaled.new.dst c.add_scaled-2.new.dst (omega arith) c.requires
    c.add_scaled.ensures c.add_scaled-2.ensures
