use Rattle.std.proofs.Common.{◌≡◌, ◌+◌, ◌*◌, ◌∙◌, take, map, bit_xor, ap, arith, take_all}
use lib.Lanes.{zip2, chunk, put_chunk}
use Rattle.gf_core.specs.Field.{gf_mul}
use Rattle.gf_core.specs.Rows.{add_scaled_row}
use Rattle.gf_core.proofs.RowLemmas.{add_scaled_row_none}
use Rattle.gf_rows.proofs.LaneLemmas.{add_vector}
use Rattle.gf_rows.proofs.rounds.add_scaled.Goals as goal

pub loop-k-init : goal.loop-k-init
loop-k-init c = add_scaled_row_none c.args.dst.now c.args.c c.args.src.now

pub loop-k-preserved : goal.loop-k-preserved
loop-k-preserved c =
    let at = c.loop-k.k * 16 in
    let next : at + 16 ≡ (c.loop-k.k + 1) * 16 = omega arith in
    ap (λ product. put_chunk at c.loop-k.dst (zip2 bit_xor (chunk at 16 c.loop-k.dst) product)) c.times-product.ensures ∙
    (ap (λ row. put_chunk at row (zip2 bit_xor (chunk at 16 row) (map (gf_mul c.args.c) (chunk at 16 c.args.src.now)))) c.loop-k.invariant ∙
    (add_vector c.args.c 16 at c.args.dst.now c.args.src.now (omega arith) c.requires.same_length ∙
    ap (λ m. add_scaled_row c.args.dst.now c.args.c (take m c.args.src.now)) next))

pub returns : goal.returns
returns c =
    c.loop-k.invariant ∙ ap (add_scaled_row c.args.dst.now c.args.c) (take_all (c.loop-k.k * 16) c.args.src.now (omega arith))
