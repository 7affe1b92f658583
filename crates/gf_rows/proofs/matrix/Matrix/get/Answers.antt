use Rattle.std.proofs.Common.{◌<◌, ◌+◌, ◌*◌, ◌∙◌, length, arith, sym}
use Rattle.std.proofs.lemmas.List.{get_or_default}
use Rattle.gf_rows.proofs.MatrixLemmas.{place_of_grid, entry_of_grid, IsMatrix-of_grid}
use Rattle.gf_rows.proofs.matrix.Matrix.get.Goals as goal

pub index-requires : goal.index-requires
index-requires c =
    let place = place_of_grid c.self.inside.row_count c.self.inside.col_count c.self.inside.bytes.items c.args.self.now c.args.r c.args.c c.self.view_is (sym c.self.inside.bytes.ok.0 ∙ c.self.invariant.0) c.requires.row c.requires.column in
    omega (arith, place, c.self.inside.bytes.ok.0)

pub returns-clause-value : goal.returns-clause-value
returns-clause-value c =
    let place : c.args.r * c.self.inside.col_count + c.args.c < length c.self.inside.bytes.items =
    place_of_grid c.self.inside.row_count c.self.inside.col_count c.self.inside.bytes.items c.args.self.now c.args.r c.args.c c.self.view_is (sym c.self.inside.bytes.ok.0 ∙ c.self.invariant.0) c.requires.row c.requires.column in
    c.new.ensures ∙
    (c.index.ensures ∙
    (get_or_default c.self.inside.bytes.items (c.args.r * c.self.inside.col_count + c.args.c) c.index.result.now 0 place ∙
    entry_of_grid c.self.inside.row_count c.self.inside.col_count c.self.inside.bytes.items c.args.self.now c.args.r c.args.c c.self.view_is c.requires.row c.requires.column))

pub returns-clause-matrix : goal.returns-clause-matrix
returns-clause-matrix c =
    IsMatrix-of_grid c.self.inside.row_count c.self.inside.col_count c.self.inside.bytes.items c.args.self.now c.self.view_is (sym c.self.inside.bytes.ok.0 ∙ c.self.invariant.0) c.self.invariant.1
