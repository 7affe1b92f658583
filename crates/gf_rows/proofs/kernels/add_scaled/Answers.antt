use Rattle.std.proofs.Common.{◌≡◌, ◌∙◌, ap, sym}
use Rattle.gf_core.specs.Rows.{row_sum, add_scaled_row}
use Rattle.gf_core.proofs.RowLemmas.{add_scaled_row-zero, scaled_row-one}
use Rattle.gf_rows.proofs.kernels.add_scaled.Goals as goal

pub returns-in-0 : goal.returns-in-0
returns-in-0 c =
    let none : c.args.c ≡ 0 = sym c.byte.ensures ∙ c.in-0.is in
    sym (ap (λ factor. add_scaled_row c.args.dst.now factor c.args.src.now) none ∙ add_scaled_row-zero c.args.dst.now c.args.src.now)

pub returns-in-1 : goal.returns-in-1
returns-in-1 c =
    let one : c.args.c ≡ 1 = sym c.byte.ensures ∙ c.in-1.is in
    c.add_row.ensures ∙
    sym (ap (λ factor. add_scaled_row c.args.dst.now factor c.args.src.now) one ∙ ap (row_sum c.args.dst.now) (scaled_row-one c.args.src.now))
