use Rattle.std.proofs.Common.{ℕ, ◌<◌, ◌∙◌, List, get_or, ap, arith}
use Rattle.bats_stripes.specs.Layout.{byte_place}
use Rattle.bats_stripes.proofs.StripedRows.{count_of_striped}
use Rattle.bats_stripes.proofs.WrittenRows.{row_copied}
use Rattle.bats_stripes.proofs.payload.Payload.copy_row_to.Goals as goal

pub copy_row-requires-clause-row : goal.copy_row-requires-clause-row
copy_row-requires-clause-row c =
    let l = c.self.inside.layout in
    omega (arith, c.requires.row, count_of_striped l.rows l.cols l.width l.stride c.self.inside.bytes.items c.args.self.now c.self.view_is)

pub returns : goal.returns
returns c =
    let l = c.self.inside.layout in
    let items = c.self.inside.bytes.items in
    let here : c.args.r < l.rows = omega (arith, c.requires.row, count_of_striped l.rows l.cols l.width l.stride items c.args.self.now c.self.view_is) in
    row_copied l.rows l.cols l.width l.stride c.args.r items c.copy_row.new.dst c.args.self.now c.self.view_is here c.copy_row.ensures.size
    (λ k p. c.copy_row.ensures.own k p ∙ ap (λ (xs : List ℕ). get_or xs (byte_place l.rows l.width l.stride c.args.r k) 0) c.as_slice.ensures.value)
