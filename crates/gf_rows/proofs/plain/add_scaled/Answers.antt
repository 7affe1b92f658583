use Rattle.std.proofs.Common.{◌≡◌, ◌∙◌, get_or, set, ap, arith, take_all}
use Rattle.gf_core.specs.Field.{gf_add, gf_mul}
use Rattle.gf_core.specs.Rows.{add_scaled_row}
use Rattle.gf_core.proofs.RowLemmas.{add_scaled_row_none, add_scaled_row_more}
use Rattle.gf_rows.proofs.plain.add_scaled.Goals as goal

pub loop-i-init : goal.loop-i-init
loop-i-init c = add_scaled_row_none c.args.dst.now c.args.c c.args.src.now

pub loop-i-preserved : goal.loop-i-preserved
loop-i-preserved c =
    let product : c.byte.result ≡ gf_mul c.args.c (get_or c.args.src.now c.loop-i.i 0) =
    c.byte.ensures ∙ (c.mul.ensures ∙ ap (gf_mul c.args.c) c.new.ensures) in
    ap (λ byte. set c.loop-i.dst c.loop-i.i (gf_add (get_or c.loop-i.dst c.loop-i.i 0) byte)) product ∙
    (ap (λ row. set row c.loop-i.i (gf_add (get_or row c.loop-i.i 0) (gf_mul c.args.c (get_or c.args.src.now c.loop-i.i 0)))) c.loop-i.invariant ∙
    add_scaled_row_more c.args.dst.now c.args.c c.args.src.now c.loop-i.i (omega arith) (omega arith))

pub returns : goal.returns
returns c =
    c.loop-i.invariant ∙ ap (add_scaled_row c.args.dst.now c.args.c) (take_all c.loop-i.i c.args.src.now (omega arith))
