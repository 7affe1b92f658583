use Rattle.std.proofs.Common.{◌≡◌, ◌+◌, ◌*◌, ◌++◌, ◌∙◌, take, drop, map, ap, arith, refl, take_all}
use Rattle.std.proofs.lemmas.List.{drop_all, append-nil}
use lib.Lanes.{chunk, put_chunk}
use Rattle.gf_core.specs.Field.{gf_mul}
use Rattle.gf_core.specs.Rows.{scaled_row}
use Rattle.gf_rows.proofs.LaneLemmas.{scale_vector}
use Rattle.gf_rows.proofs.rounds.scale_row.Goals as goal

pub loop-k-init : goal.loop-k-init
unfolding scaled_row
loop-k-init c = refl

pub loop-k-preserved : goal.loop-k-preserved
loop-k-preserved c =
    let at = c.loop-k.k * 16 in
    let next : at + 16 ≡ (c.loop-k.k + 1) * 16 = omega arith in
    ap (put_chunk at c.loop-k.row) c.times-product.ensures ∙
    (ap (λ row. put_chunk at row (map (gf_mul c.args.c) (chunk at 16 row))) c.loop-k.invariant ∙
    (scale_vector c.args.c 16 at c.args.row.now (omega arith) ∙
    ap (λ m. scaled_row c.args.c (take m c.args.row.now) ++ drop m c.args.row.now) next))

pub returns : goal.returns
returns c =
    let done = c.loop-k.k * 16 in
    c.loop-k.invariant ∙
    (ap (λ row. scaled_row c.args.c row ++ drop done c.args.row.now) (take_all done c.args.row.now (omega arith)) ∙
    (ap (λ row. scaled_row c.args.c c.args.row.now ++ row) (drop_all done c.args.row.now (omega arith)) ∙
    append-nil (scaled_row c.args.c c.args.row.now)))
