use Rattle.std.proofs.Common.{◌∙◌, ap}
use Rattle.gf_rows.proofs.BufferLemmas.{rows_of-replicate}
use Rattle.gf_rows.proofs.MatrixLemmas.{grid}
use Rattle.gf_rows.proofs.matrix.Matrix.zeros.Goals as goal

pub returns : goal.returns
returns c =
    ap (grid c.args.rows c.args.cols) (c.in_ok-bytes.ensures.items_if_clones_equal (λ y same. same)) ∙
    ap (λ rows. record { cols = c.args.cols; rows = rows }) (rows_of-replicate c.args.rows c.args.cols)
