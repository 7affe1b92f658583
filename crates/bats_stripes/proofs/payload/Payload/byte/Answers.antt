use Rattle.std.proofs.Common.{◌<◌, ◌∙◌, length, arith, sym, subst}
use Rattle.std.proofs.lemmas.List.{get_or_default}
use Rattle.bats_stripes.specs.Layout.{byte_place}
use Rattle.bats_stripes.proofs.StripedRows.{place_within, count_of_striped, cols_of_striped, byte_of_striped}
use Rattle.bats_stripes.proofs.payload.Payload.byte.Goals as goal

pub index-requires : goal.index-requires
index-requires c =
    let l = c.self.inside.layout in
    let items = c.self.inside.bytes.items in
    let is = c.self.invariant.0 in
    let r : c.args.r < l.rows = omega (arith, c.requires.row, count_of_striped l.rows l.cols l.width l.stride items c.args.self.now c.self.view_is) in
    let p : c.args.c < l.cols = omega (arith, c.requires.column, cols_of_striped l.rows l.cols l.width l.stride items c.args.self.now c.self.view_is) in
    subst (λ n. byte_place l.rows l.width l.stride c.args.r c.args.c < n) (sym is.bytes)
    (place_within l.rows l.cols l.width l.stride l.stripes c.args.r c.args.c is.some is.fits is.covers r p)

pub returns : goal.returns
returns c =
    let l = c.self.inside.layout in
    let items = c.self.inside.bytes.items in
    let is = c.self.invariant.0 in
    let r : c.args.r < l.rows = omega (arith, c.requires.row, count_of_striped l.rows l.cols l.width l.stride items c.args.self.now c.self.view_is) in
    let p : c.args.c < l.cols = omega (arith, c.requires.column, cols_of_striped l.rows l.cols l.width l.stride items c.args.self.now c.self.view_is) in
    let within = place_within l.rows l.cols l.width l.stride l.stripes c.args.r c.args.c is.some is.fits is.covers r p in
    let place : byte_place l.rows l.width l.stride c.args.r c.args.c < length items = omega (arith, within, is.bytes, c.self.inside.bytes.ok.0) in
    c.index.ensures ∙
    (get_or_default items (byte_place l.rows l.width l.stride c.args.r c.args.c) c.index.result.now 0 place ∙
    byte_of_striped l.rows l.cols l.width l.stride items c.args.self.now c.self.view_is c.args.r c.args.c c.requires.row c.requires.column)
