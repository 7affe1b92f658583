use Rattle.std.proofs.Common.{get_or, arith}
use Rattle.gf_rows.specs.Matrix.{matrix_entry}
use Rattle.bats_peel.proofs.LocalLemmas.{WritesEntries-none, WritesEntries-more}
use Rattle.bats_peel.proofs.fixing.copy_columns.Goals as goal

pub places-init : goal.places-init
places-init c =
    WritesEntries-none (λ j. matrix_entry c.args.matrix.now c.args.r (get_or c.args.places.now j 0)) c.args.r c.args.columns.now c.requires.matrix

pub places-preserved : goal.places-preserved
places-preserved c =
    let before = c.places.invariant in
    WritesEntries-more (λ j. matrix_entry c.args.matrix.now c.args.r (get_or c.args.places.now j 0)) c.places.j c.args.r c.get.result
    c.args.columns.now c.places.columns c.set.new.self before c.set.ensures.matrix (omega (arith, c.requires.row, before.rows))
    (omega (arith, c.requires.columns, before.cols)) c.get.ensures.value c.set.ensures.row
