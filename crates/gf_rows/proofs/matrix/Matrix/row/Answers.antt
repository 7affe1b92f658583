use Rattle.std.proofs.Common.{◌≡◌, ◌≤◌, ◌+◌, ◌-◌, ◌*◌, ◌∙◌, length, take, drop, ap, arith, rules, sym}
use Rattle.gf_rows.proofs.MatrixLemmas.{within_grid, row_of_grid}
use Rattle.gf_rows.proofs.matrix.Matrix.row.Goals as goal

pub slice_bounds-result-end : goal.slice_bounds-result-end
slice_bounds-result-end c =
    let within : c.args.r * c.self.inside.col_count + c.self.inside.col_count ≤ length c.self.inside.bytes.items =
    within_grid c.self.inside.row_count c.self.inside.col_count c.self.inside.bytes.items c.args.self.now c.args.r c.self.view_is (sym c.self.inside.bytes.ok.0 ∙ c.self.invariant.0) c.requires in
    let same : length c.as_slice.result.now ≡ length c.self.inside.bytes.items = ap length c.as_slice.ensures.value in
    search rules

pub returns-clause-values : goal.returns-clause-values
returns-clause-values c =
    let width : c.args.r * c.self.inside.col_count + c.self.inside.col_count - c.args.r * c.self.inside.col_count ≡ c.self.inside.col_count = omega arith in
    ap (λ n. take n (drop (c.args.r * c.self.inside.col_count) c.as_slice.result.now)) width ∙
    (ap (λ bytes. take c.self.inside.col_count (drop (c.args.r * c.self.inside.col_count) bytes)) c.as_slice.ensures.value ∙
    row_of_grid c.self.inside.row_count c.self.inside.col_count c.self.inside.bytes.items c.args.self.now c.args.r c.self.view_is c.requires)
