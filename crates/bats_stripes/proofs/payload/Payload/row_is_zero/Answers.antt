use Rattle.std.proofs.Common.{ℕ, ◌≡◌, ◌<◌, ◌∙◌, List, get_or, sym, ap, subst, arith}
use Rattle.bats_stripes.specs.Layout.{byte_place}
use Rattle.bats_stripes.proofs.StripedRows.{byte_of_striped, cols_of_striped, count_of_striped}
use Rattle.bats_stripes.proofs.payload.Payload.row_is_zero.Goals as goal

pub row_is_zero-requires-clause-row : goal.row_is_zero-requires-clause-row
row_is_zero-requires-clause-row c =
    let l = c.self.inside.layout in
    omega (arith, c.requires, count_of_striped l.rows l.cols l.width l.stride c.self.inside.bytes.items c.args.self.now c.self.view_is)

pub returns : goal.returns
returns c =
    let l = c.self.inside.layout in
    let items = c.self.inside.bytes.items in
    let cols = cols_of_striped l.rows l.cols l.width l.stride items c.args.self.now c.self.view_is in
    let at = λ (xs : List ℕ) (k : ℕ). get_or xs (byte_place l.rows l.width l.stride c.args.r k) 0 in (
      λ is k p.
          let within : k < l.cols = omega (arith, p, cols) in
          sym (byte_of_striped l.rows l.cols l.width l.stride items c.args.self.now c.self.view_is c.args.r k c.requires p)
          ∙ (sym (ap (λ (xs : List ℕ). at xs k) c.as_slice.ensures.value) ∙ c.row_is_zero.ensures.0 is k within),
      λ zeros. c.row_is_zero.ensures.1 (λ k p.
          let within : k < c.args.self.now.cols = omega (arith, p, cols) in
          ap (λ (xs : List ℕ). at xs k) c.as_slice.ensures.value
          ∙ (byte_of_striped l.rows l.cols l.width l.stride items c.args.self.now c.self.view_is c.args.r k c.requires within ∙ zeros k within)),
    )
