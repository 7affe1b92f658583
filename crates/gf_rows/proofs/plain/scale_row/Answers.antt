use Rattle.std.proofs.Common.{◌≡◌, ◌<◌, ◌++◌, ◌∙◌, length, get_or, set, drop, ap, arith, refl}
use Rattle.std.proofs.lemmas.List.{take_all, drop_all, append-nil}
use Rattle.std.proofs.lemmas.List.Edits.{map_over_more}
use Rattle.gf_core.specs.Field.{gf_mul}
use Rattle.gf_core.specs.Rows.{scaled_row}
use Rattle.gf_rows.proofs.plain.scale_row.Goals as goal

pub loop-byte-init : goal.loop-byte-init
unfolding scaled_row
loop-byte-init c = refl

pub loop-byte-preserved : goal.loop-byte-preserved
unfolding scaled_row
loop-byte-preserved c =
    let byte = get_or c.loop-byte.row c.loop-byte.byte-index 0 in
    let product : c.byte.result ≡ gf_mul c.args.c byte = c.byte.ensures ∙ (c.mul.ensures ∙ ap (gf_mul c.args.c) c.new.ensures) in
    let within : c.loop-byte.byte-index < length c.loop-byte.row = omega arith in
    ap (set c.loop-byte.row c.loop-byte.byte-index) product ∙
    map_over_more (gf_mul c.args.c) c.args.row.now c.loop-byte.row c.loop-byte.byte-index byte (omega arith) c.loop-byte.invariant (Rattle.std.proofs.lemmas.List.get_or_default c.loop-byte.row c.loop-byte.byte-index 0 byte within)

pub returns : goal.returns
returns c =
    c.loop-byte.invariant ∙
    (ap (λ row. scaled_row c.args.c row ++ drop c.loop-byte.byte-index c.args.row.now) (take_all c.loop-byte.byte-index c.args.row.now (omega arith)) ∙
    (ap (λ row. scaled_row c.args.c c.args.row.now ++ row) (drop_all c.loop-byte.byte-index c.args.row.now (omega arith)) ∙
    append-nil (scaled_row c.args.c c.args.row.now)))
