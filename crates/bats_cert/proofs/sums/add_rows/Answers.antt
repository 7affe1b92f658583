use Rattle.std.proofs.Common.{ℕ, ◌<◌, ◌∙◌, List, [], length, get_or, replicate, sym, ap, arith}
use Rattle.gf_core.specs.Triangular.{AreRows}
use Rattle.gf_core.specs.Rows.{add_scaled_row}
use Rattle.bats_cert.proofs.RowSums.{combination-none, combination-more}
use Rattle.bats_cert.proofs.sums.add_rows.Goals as goal

pub rows-init : goal.rows-init
rows-init c = c.requires.zeros ∙ ap (λ (n : ℕ). replicate n 0) c.requires.width ∙ sym (combination-none c.args.rows.now.cols _)

pub rows-preserved : goal.rows-preserved
rows-preserved c =
    let sum : List ℕ = c.rows.sum in
    let i : ℕ = c.rows.i in
    let factors : List ℕ = c.args.factors.now in
    let rows : List (List ℕ) = c.args.rows.now.rows in
    let inside : i < length rows = omega (arith, c.rows-test.true, c.rows-i-end.ensures.count) in
    let are : AreRows c.args.rows.now.cols rows = record {
      widths = c.rows-i-end.ensures.matrix.widths;
      bytes = c.rows-i-end.ensures.matrix.bytes;
    } in
    c.add_scaled.ensures ∙ ap (λ (f : ℕ). add_scaled_row sum f c.row.result.now) c.new.ensures
    ∙ ap (λ (row : List ℕ). add_scaled_row sum (get_or factors i 0) row) c.row.ensures.values
    ∙ ap (λ (s : List ℕ). add_scaled_row s (get_or factors i 0) (get_or rows i [])) c.rows.invariant
    ∙ sym (combination-more c.args.rows.now.cols factors rows i are (omega (arith, c.requires.each)) inside)
