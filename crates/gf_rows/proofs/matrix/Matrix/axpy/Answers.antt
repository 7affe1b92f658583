use Rattle.std.proofs.Common.{◌≡◌, ◌≤◌, ◌+◌, ◌*◌, ◌∙◌, length, take, drop, ap, arith, subst, sym}
use Rattle.gf_core.specs.Bytes.{AreBytes}
use Rattle.gf_core.specs.Rows.{add_scaled_row}
use Rattle.gf_rows.specs.Matrix.{IsMatrix, matrix_row, with_matrix_row}
use Rattle.gf_core.proofs.RowLemmas.{length-add_scaled_row}
use Rattle.gf_rows.proofs.BufferLemmas.{length-part, rows_apart, items_of_add_scaled, AreBytes-add_scaled}
use Rattle.gf_rows.proofs.MatrixLemmas.{within_grid, row_of_grid, grid-with_part, IsMatrix-of_grid, IsMatrix-add_scaled}
use Rattle.gf_rows.proofs.matrix.Matrix.axpy.Goals as goal

pub add_scaled_inside-requires-clause-dst : goal.add_scaled_inside-requires-clause-dst
add_scaled_inside-requires-clause-dst g c =
    let within = within_grid c.self.inside.row_count c.self.inside.col_count c.self.inside.bytes.items c.args.self.now c.args.dst c.self.view_is (sym c.self.inside.bytes.ok.0 ∙ c.self.invariant.0) c.requires.dst in
    omega (arith, within, ap length c.as_mut_slice.ensures.value)

pub add_scaled_inside-requires-clause-src : goal.add_scaled_inside-requires-clause-src
add_scaled_inside-requires-clause-src g c =
    let within = within_grid c.self.inside.row_count c.self.inside.col_count c.self.inside.bytes.items c.args.self.now c.args.src c.self.view_is (sym c.self.inside.bytes.ok.0 ∙ c.self.invariant.0) c.requires.src in
    omega (arith, within, ap length c.as_mut_slice.ensures.value)

pub add_scaled_inside-requires-clause-apart : goal.add_scaled_inside-requires-clause-apart
add_scaled_inside-requires-clause-apart g c = rows_apart c.self.inside.col_count c.args.dst c.args.src c.requires.apart

pub invariant_of-self : goal.invariant_of-self
invariant_of-self g c =
    let width = c.self.inside.col_count in
    let items = c.self.inside.bytes.items in
    let within : c.args.dst * width + width ≤ length items =
    within_grid c.self.inside.row_count width items c.args.self.now c.args.dst c.self.view_is (sym c.self.inside.bytes.ok.0 ∙ c.self.invariant.0) c.requires.dst in
    let written = items_of_add_scaled c.self.inside.bytes c.as_mut_slice.result.now c.add_scaled_inside.new.bytes width (c.args.dst * width) c.args.c (c.args.src * width) c.as_mut_slice.ensures.value within c.add_scaled_inside.ensures in
    (c.self.invariant.0, subst AreBytes (sym written) (AreBytes-add_scaled items width (c.args.dst * width) c.args.c (c.args.src * width) c.self.invariant.1))

pub returns-clause-row : goal.returns-clause-row
returns-clause-row g c =
    let width = c.self.inside.col_count in
    let items = c.self.inside.bytes.items in
    let size : length items ≡ c.self.inside.row_count * width = sym c.self.inside.bytes.ok.0 ∙ c.self.invariant.0 in
    let within : c.args.dst * width + width ≤ length items =
    within_grid c.self.inside.row_count width items c.args.self.now c.args.dst c.self.view_is size c.requires.dst in
    let dst = take width (drop (c.args.dst * width) items) in
    let src = take width (drop (c.args.src * width) items) in
    let long : length (add_scaled_row dst c.args.c src) ≡ width = length-add_scaled_row dst c.args.c src ∙ length-part items (c.args.dst * width) width within in
    grid-with_part c.self.inside.row_count width items _ c.args.self.now c.args.dst (add_scaled_row dst c.args.c src) c.self.view_is size c.requires.dst long
    (items_of_add_scaled c.self.inside.bytes c.as_mut_slice.result.now c.add_scaled_inside.new.bytes width (c.args.dst * width) c.args.c (c.args.src * width) c.as_mut_slice.ensures.value within c.add_scaled_inside.ensures) ∙
    (ap (λ row. with_matrix_row c.args.self.now c.args.dst (add_scaled_row row c.args.c src)) (row_of_grid c.self.inside.row_count width items c.args.self.now c.args.dst c.self.view_is c.requires.dst) ∙
    ap (λ row. with_matrix_row c.args.self.now c.args.dst (add_scaled_row (matrix_row c.args.self.now c.args.dst) c.args.c row)) (row_of_grid c.self.inside.row_count width items c.args.self.now c.args.src c.self.view_is c.requires.src))

pub returns-clause-matrix : goal.returns-clause-matrix
returns-clause-matrix g c =
    let old : IsMatrix c.args.self.now = IsMatrix-of_grid c.self.inside.row_count c.self.inside.col_count c.self.inside.bytes.items c.args.self.now c.self.view_is (sym c.self.inside.bytes.ok.0 ∙ c.self.invariant.0) c.self.invariant.1 in
    subst IsMatrix (sym (returns-clause-row g c)) (IsMatrix-add_scaled c.args.self.now c.args.dst c.args.c c.args.src old c.requires.dst c.requires.src)
