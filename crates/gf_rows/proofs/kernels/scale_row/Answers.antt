use Rattle.std.proofs.Common.{◌≡◌, ◌∙◌, ap, sym}
use Rattle.gf_core.specs.Rows.{scaled_row}
use Rattle.gf_core.proofs.RowLemmas.{scaled_row-one}
use Rattle.gf_rows.proofs.kernels.scale_row.Goals as goal

pub returns-then-byte-eq1-clause-row : goal.returns-then-byte-eq1-clause-row
returns-then-byte-eq1-clause-row c =
    let one : c.args.c ≡ 1 = sym c.byte.ensures ∙ c.if-byte-eq1.true in
    sym (ap (λ factor. scaled_row factor c.args.row.now) one ∙ scaled_row-one c.args.row.now)
