use Rattle.std.proofs.Common.{ℕ, ◌≡◌, ◌<◌, ◌∙◌, List, length, get_or, ap, sym, arith}
use Rattle.std.proofs.lemmas.List.{with_items_is}
use Rattle.bats_stripes.specs.Layout.{byte_place}
use Rattle.bats_stripes.proofs.StripedRows.{striped_grid, count_of_striped, cols_of_striped}
use Rattle.bats_stripes.proofs.WrittenRows.{grid_written}
use Rattle.bats_stripes.proofs.payload.Payload.put_row.Goals as goal

pub put_row-requires-clause-row : goal.put_row-requires-clause-row
put_row-requires-clause-row c =
    let l = c.self.inside.layout in
    omega (arith, c.requires.row, count_of_striped l.rows l.cols l.width l.stride c.self.inside.bytes.items c.args.self.now c.self.view_is)

pub returns : goal.returns
returns c =
    let l = c.self.inside.layout in
    let items = c.self.inside.bytes.items in
    let row = c.args.bytes.now in
    let after = c.put_row.new.buffer in
    let same = c.as_mut_slice.ensures.value in
    let here : c.args.r < l.rows = omega (arith, c.requires.row, count_of_striped l.rows l.cols l.width l.stride items c.args.self.now c.self.view_is) in
    let size : length row ≡ l.cols = c.requires.width ∙ sym (cols_of_striped l.rows l.cols l.width l.stride items c.args.self.now c.self.view_is) in
    let written = with_items_is c.self.inside.bytes after (c.put_row.ensures.size ∙ (ap length same ∙ sym c.self.inside.bytes.ok.0)) in
    ap (striped_grid l.rows l.cols l.width l.stride) written ∙
    grid_written l.rows l.cols l.width l.stride c.args.r items after row here size c.put_row.ensures.own
    (λ q k h other p. c.put_row.ensures.others q k h other p ∙ ap (λ (xs : List ℕ). get_or xs (byte_place l.rows l.width l.stride q k) 0) same) c.args.self.now c.self.view_is
