use Rattle.std.proofs.Common.{◌∙◌, get_or, set, ap, sym, arith, take_all}
use Rattle.gf_core.specs.Field.{gf_add}
use Rattle.gf_core.specs.Rows.{row_sum}
use Rattle.gf_core.proofs.RowLemmas.{row_sum-nil}
use Rattle.gf_rows.proofs.LaneLemmas.{row_sum_more}
use Rattle.gf_rows.proofs.plain.add_row.Goals as goal

pub loop-i-init : goal.loop-i-init
loop-i-init c = sym (row_sum-nil c.args.dst.now)

pub loop-i-preserved : goal.loop-i-preserved
loop-i-preserved c =
    ap (λ row. set row c.loop-i.i (gf_add (get_or row c.loop-i.i 0) (get_or c.args.src.now c.loop-i.i 0))) c.loop-i.invariant ∙
    row_sum_more c.args.dst.now c.args.src.now c.loop-i.i (omega arith) (omega arith)

pub returns : goal.returns
returns c = c.loop-i.invariant ∙ ap (row_sum c.args.dst.now) (take_all c.loop-i.i c.args.src.now (omega arith))
