use Rattle.std.proofs.Common.{◌∙◌, length, sym, ap}
use Rattle.gf_rows.specs.Matrix.{Grid}
use Rattle.bats_stripes.proofs.StripedRows.{length-striped_rows}
use Rattle.bats_stripes.proofs.payload.Payload.rows.Goals as goal

pub returns : goal.returns
returns c =
    let l = c.self.inside.layout in
    sym (length-striped_rows l.rows l.cols l.width l.stride c.self.inside.bytes.items) ∙ ap (λ (g : Grid). length g.rows) c.self.view_is
