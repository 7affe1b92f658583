use Rattle.std.proofs.Common.{◌≡◌, ◌<◌, ◌≤◌, ◌+◌, ◌*◌, ◌∙◌, length, ap, arith, rules, subst, sym}
use Rattle.std.proofs.lemmas.List.Elements.{All-from_get_or}
use Rattle.gf_core.specs.Bytes.{AreBytes}
use Rattle.gf_rows.specs.Matrix.{Grid, IsMatrix}
use Rattle.gf_rows.proofs.BufferLemmas.{items_of_part, AreBytes-with_part, written_in_slice}
use Rattle.gf_rows.proofs.MatrixLemmas.{within_grid, grid-with_part, IsMatrix-of_grid, IsMatrix-with_matrix_row}
use Rattle.gf_rows.proofs.matrix.Matrix.set_row.Goals as goal

pub slice_bounds-copy_from_slice-end : goal.slice_bounds-copy_from_slice-end
slice_bounds-copy_from_slice-end c =
    let within : c.args.r * c.self.inside.col_count + c.self.inside.col_count ≤ length c.self.inside.bytes.items =
    within_grid c.self.inside.row_count c.self.inside.col_count c.self.inside.bytes.items c.args.self.now c.args.r c.self.view_is (sym c.self.inside.bytes.ok.0 ∙ c.self.invariant.0) c.requires.row in
    let same : length c.as_mut_slice.result.now ≡ length c.self.inside.bytes.items = ap length c.as_mut_slice.ensures.value in
    search rules

pub invariant_of-self : goal.invariant_of-self
invariant_of-self c =
    let bytes : AreBytes c.args.bytes.now = All-from_get_or (λ byte. byte < 256) c.args.bytes.now 0 (λ k h. omega (arith, c.type_inv.bytes k)) in
    let width = c.self.inside.col_count in
    let items = c.self.inside.bytes.items in
    let long : length c.args.bytes.now ≡ width = c.requires.width ∙ sym (ap (λ (g : Grid). g.cols) c.self.view_is) in
    let within : c.args.r * width + width ≤ length items =
    within_grid c.self.inside.row_count width items c.args.self.now c.args.r c.self.view_is (sym c.self.inside.bytes.ok.0 ∙ c.self.invariant.0) c.requires.row in
    let written = items_of_part c.self.inside.bytes _ (c.args.r * width) c.args.bytes.now
    (written_in_slice items c.as_mut_slice.result.now c.copy_from_slice.new.self c.args.bytes.now width (c.args.r * width) c.as_mut_slice.ensures.value c.copy_from_slice.ensures.after long) (omega (arith, within, long)) in
    (c.self.invariant.0, subst AreBytes (sym written) (AreBytes-with_part items (c.args.r * width) c.args.bytes.now c.self.invariant.1 bytes))

pub returns-clause-row : goal.returns-clause-row
returns-clause-row c =
    let width = c.self.inside.col_count in
    let items = c.self.inside.bytes.items in
    let size : length items ≡ c.self.inside.row_count * width = sym c.self.inside.bytes.ok.0 ∙ c.self.invariant.0 in
    let long : length c.args.bytes.now ≡ width = c.requires.width ∙ sym (ap (λ (g : Grid). g.cols) c.self.view_is) in
    let within : c.args.r * width + width ≤ length items =
    within_grid c.self.inside.row_count width items c.args.self.now c.args.r c.self.view_is size c.requires.row in
    grid-with_part c.self.inside.row_count width items _ c.args.self.now c.args.r c.args.bytes.now c.self.view_is size c.requires.row long
    (items_of_part c.self.inside.bytes _ (c.args.r * width) c.args.bytes.now
    (written_in_slice items c.as_mut_slice.result.now c.copy_from_slice.new.self c.args.bytes.now width (c.args.r * width) c.as_mut_slice.ensures.value c.copy_from_slice.ensures.after long) (omega (arith, within, long)))

pub returns-clause-matrix : goal.returns-clause-matrix
returns-clause-matrix c =
    let bytes : AreBytes c.args.bytes.now = All-from_get_or (λ byte. byte < 256) c.args.bytes.now 0 (λ k h. omega (arith, c.type_inv.bytes k)) in
    let old : IsMatrix c.args.self.now = IsMatrix-of_grid c.self.inside.row_count c.self.inside.col_count c.self.inside.bytes.items c.args.self.now c.self.view_is (sym c.self.inside.bytes.ok.0 ∙ c.self.invariant.0) c.self.invariant.1 in
    subst IsMatrix (sym (returns-clause-row c)) (IsMatrix-with_matrix_row c.args.self.now c.args.r c.args.bytes.now old c.requires.width bytes)
