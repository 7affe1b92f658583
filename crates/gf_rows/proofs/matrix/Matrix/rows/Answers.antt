use Rattle.std.proofs.Common.{◌∙◌, sym}
use Rattle.gf_rows.proofs.MatrixLemmas.{count_of_grid, IsMatrix-of_grid}
use Rattle.gf_rows.proofs.matrix.Matrix.rows.Goals as goal

pub returns-clause-count : goal.returns-clause-count
returns-clause-count c = count_of_grid c.self.inside.row_count c.self.inside.col_count c.self.inside.bytes.items c.args.self.now c.self.view_is

pub returns-clause-matrix : goal.returns-clause-matrix
returns-clause-matrix c =
    IsMatrix-of_grid c.self.inside.row_count c.self.inside.col_count c.self.inside.bytes.items c.args.self.now c.self.view_is (sym c.self.inside.bytes.ok.0 ∙ c.self.invariant.0) c.self.invariant.1
