use Rattle.std.proofs.Common.{◌≡◌, ◌≤◌, ◌+◌, ◌-◌, ◌*◌, ◌∙◌, length, take, drop, ap, arith, rules, subst, sym}
use borrow.Rule.Slice.PartMut.{put_mid}
use Rattle.gf_core.specs.Rows.{scaled_row}
use Rattle.gf_rows.specs.Matrix.{IsMatrix, with_matrix_row, with_part}
use Rattle.gf_core.proofs.RowLemmas.{length-scaled_row}
use Rattle.gf_rows.proofs.BufferLemmas.{length-part, items_of_part, scaled_in_slice}
use Rattle.gf_rows.proofs.MatrixLemmas.{within_grid, row_of_grid, grid-with_part, IsMatrix-of_grid, IsMatrix-scaled}
use Rattle.gf_rows.proofs.matrix.Matrix.scale.Goals as goal

pub slice_bounds-scale-end : goal.slice_bounds-scale-end
slice_bounds-scale-end g c =
    let within : c.args.r * c.self.inside.col_count + c.self.inside.col_count ≤ length c.self.inside.bytes.items =
    within_grid c.self.inside.row_count c.self.inside.col_count c.self.inside.bytes.items c.args.self.now c.args.r c.self.view_is (sym c.self.inside.bytes.ok.0 ∙ c.self.invariant.0) c.requires.row in
    let same : length c.as_mut_slice.result.now ≡ length c.self.inside.bytes.items = ap length c.as_mut_slice.ensures.value in
    search rules

pub returns-clause-row : goal.returns-clause-row
returns-clause-row g c =
    let width = c.self.inside.col_count in
    let items = c.self.inside.bytes.items in
    let size : length items ≡ c.self.inside.row_count * width = sym c.self.inside.bytes.ok.0 ∙ c.self.invariant.0 in
    let within : c.args.r * width + width ≤ length items =
    within_grid c.self.inside.row_count width items c.args.self.now c.args.r c.self.view_is size c.requires.row in
    let row = take width (drop (c.args.r * width) items) in
    let long : length (scaled_row c.args.c row) ≡ width = length-scaled_row c.args.c row ∙ length-part items (c.args.r * width) width within in
    let written : put_mid (c.args.r * width) (c.args.r * width + width - c.args.r * width) c.as_mut_slice.result.now c.scale.new.row ≡ with_part items (c.args.r * width) (scaled_row c.args.c row) =
    scaled_in_slice items c.as_mut_slice.result.now c.scale.new.row width (c.args.r * width) c.args.c c.as_mut_slice.ensures.value within c.scale.ensures.row in
    grid-with_part c.self.inside.row_count width items _ c.args.self.now c.args.r (scaled_row c.args.c row) c.self.view_is size c.requires.row long
    (items_of_part c.self.inside.bytes _ (c.args.r * width) (scaled_row c.args.c row) written (omega (arith, within, long))) ∙
    ap (λ old. with_matrix_row c.args.self.now c.args.r (scaled_row c.args.c old)) (row_of_grid c.self.inside.row_count width items c.args.self.now c.args.r c.self.view_is c.requires.row)

pub returns-clause-matrix : goal.returns-clause-matrix
returns-clause-matrix g c =
    let old : IsMatrix c.args.self.now = IsMatrix-of_grid c.self.inside.row_count c.self.inside.col_count c.self.inside.bytes.items c.args.self.now c.self.view_is (sym c.self.inside.bytes.ok.0 ∙ c.self.invariant.0) c.self.invariant.1 in
    subst IsMatrix (sym (returns-clause-row g c)) (IsMatrix-scaled c.args.self.now c.args.r c.args.c old c.requires.row)
