use Rattle.std.proofs.Common.{◌∙◌, sym}
use Rattle.gf_rows.proofs.MultipleLemmas.{row_sum-sum_of_four}
use Rattle.gf_rows.proofs.kernels.add_four.Goals as goal

pub returns-else-any_is_zero : goal.returns-else-any_is_zero
returns-else-any_is_zero c =
    let a = c.args.a.now in
    let b = c.args.b.now in
    let third = c.args.c.now in
    let d = c.args.d.now in
    c.add_four_by_vectors.ensures ∙
    row_sum-sum_of_four c.args.dst.now a.factor a.row.now b.factor b.row.now third.factor third.row.now d.factor d.row.now
    (sym c.requires.length_a ∙ c.requires.length_b) (sym c.requires.length_a ∙ c.requires.length_c) (sym c.requires.length_a ∙ c.requires.length_d)
