use Rattle.std.proofs.Common.{◌+◌, ◌*◌, ◌∙◌, ◌<◌, [], set, ap, arith, subst, sym, length-set}
use Rattle.std.proofs.lemmas.List.Elements.{All-set}
use Rattle.gf_rows.specs.Matrix.{IsMatrix, matrix_row}
use Rattle.gf_rows.proofs.MatrixLemmas.{place_of_grid, grid, grid-set, IsMatrix-of_grid, IsMatrix-with_matrix_row}
use Rattle.gf_rows.proofs.matrix.Matrix.set.Goals as goal

pub index_mut-requires : goal.index_mut-requires
index_mut-requires c =
    let place = place_of_grid c.self.inside.row_count c.self.inside.col_count c.self.inside.bytes.items c.args.self.now c.args.r c.args.c c.self.view_is (sym c.self.inside.bytes.ok.0 ∙ c.self.invariant.0) c.requires.row c.requires.column in
    omega (arith, place, c.self.inside.bytes.ok.0)

pub returns-clause-row : goal.returns-clause-row
returns-clause-row c =
    ap (λ byte. grid c.self.inside.row_count c.self.inside.col_count (set c.self.inside.bytes.items (c.args.r * c.self.inside.col_count + c.args.c) byte)) c.byte.ensures ∙
    grid-set c.self.inside.row_count c.self.inside.col_count c.self.inside.bytes.items c.args.self.now c.args.r c.args.c c.args.v c.self.view_is (sym c.self.inside.bytes.ok.0 ∙ c.self.invariant.0) c.requires.row c.requires.column

pub returns-clause-matrix : goal.returns-clause-matrix
returns-clause-matrix c =
    let old : IsMatrix c.args.self.now = IsMatrix-of_grid c.self.inside.row_count c.self.inside.col_count c.self.inside.bytes.items c.args.self.now c.self.view_is (sym c.self.inside.bytes.ok.0 ∙ c.self.invariant.0) c.self.invariant.1 in
    subst IsMatrix (sym (returns-clause-row c))
    (IsMatrix-with_matrix_row c.args.self.now c.args.r (set (matrix_row c.args.self.now c.args.r) c.args.c c.args.v) old
    (length-set (matrix_row c.args.self.now c.args.r) c.args.c c.args.v ∙ old.widths c.args.r [] c.requires.row)
    (All-set (λ byte. byte < 256) (matrix_row c.args.self.now c.args.r) c.args.c c.args.v (subst (λ byte. byte < 256) c.byte.ensures c.byte.type_inv) (old.bytes c.args.r [] c.requires.row)))
