use Rattle.std.proofs.Common.{◌∙◌, sym, ap}
use Rattle.gf_core.specs.Rows.{add_scaled_row}
use Rattle.gf_core.proofs.RowLemmas.{add_scaled_row-zero}
use Rattle.bats_batch.proofs.combining.add_payload.Goals as goal

pub returns-then-factor-eq0-clause-row : goal.returns-then-factor-eq0-clause-row
returns-then-factor-eq0-clause-row g c =
    sym (ap (λ f. add_scaled_row c.args.sum.now f c.args.payload.now) c.if-factor-eq0.true
    ∙ add_scaled_row-zero c.args.sum.now c.args.payload.now)
