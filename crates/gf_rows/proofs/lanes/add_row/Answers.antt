use Rattle.std.proofs.Common.{◌≡◌, ◌+◌, ◌*◌, ◌∙◌, take, bit_xor, ap, sym, arith, take_all}
use lib.Lanes.{zip2, chunk, put_chunk}
use Rattle.gf_core.specs.Rows.{row_sum}
use Rattle.gf_core.proofs.RowLemmas.{row_sum-nil}
use Rattle.gf_rows.proofs.LaneLemmas.{sum_vector}
use Rattle.gf_rows.proofs.lanes.add_row.Goals as goal

pub loop-k-init : goal.loop-k-init
loop-k-init c = sym (row_sum-nil c.args.dst.now)

pub loop-k-preserved : goal.loop-k-preserved
loop-k-preserved c =
    let at = c.loop-k.k * 32 in
    let next : at + 32 ≡ (c.loop-k.k + 1) * 32 = omega arith in
    ap (λ row. put_chunk at row (zip2 bit_xor (chunk at 32 row) (chunk at 32 c.args.src.now))) c.loop-k.invariant ∙
    (sum_vector 32 at c.args.dst.now c.args.src.now (omega arith) c.requires.same_length ∙
    ap (λ m. row_sum c.args.dst.now (take m c.args.src.now)) next)

pub returns : goal.returns
returns c = c.loop-k.invariant ∙ ap (row_sum c.args.dst.now) (take_all (c.loop-k.k * 32) c.args.src.now (omega arith))
