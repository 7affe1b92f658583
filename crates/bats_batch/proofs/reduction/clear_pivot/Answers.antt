use Rattle.std.proofs.Common.{◌∙◌, sym, ap}
use Rattle.gf_core.specs.Rows.{add_scaled_row}
use Rattle.gf_core.proofs.RowLemmas.{add_scaled_row-zero}
use Rattle.bats_batch.proofs.reduction.clear_pivot.Goals as goal

pub returns-then-factor-eq0-clause-row : goal.returns-then-factor-eq0-clause-row
returns-then-factor-eq0-clause-row g c =
    sym (ap (λ f. add_scaled_row c.args.row.now f c.args.reduced.now) c.if-factor-eq0.true
    ∙ add_scaled_row-zero c.args.row.now c.args.reduced.now)
