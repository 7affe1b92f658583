use Rattle.std.proofs.Common.{◌∙◌, arith}
use Rattle.bats_peel.specs.steps.Local.{local_factor}
use Rattle.bats_peel.proofs.LocalLemmas.{WritesEntries-none, WritesEntries-more, factor-dot}
use Rattle.bats_peel.proofs.local.write_row.Goals as goal

pub contributors-init : goal.contributors-init
contributors-init c = WritesEntries-none (local_factor c.args.batch.now c.args.coefs.now) c.args.r c.args.matrix.now c.requires.matrix

pub contributors-preserved : goal.contributors-preserved
contributors-preserved c =
    let before = c.contributors.invariant in
    WritesEntries-more (local_factor c.args.batch.now c.args.coefs.now) c.contributors.k c.args.r c.dot.result
    c.args.matrix.now c.contributors.matrix c.set.new.self before c.set.ensures.matrix (omega (arith, c.requires.row, before.rows))
    (omega (arith, c.requires.columns, before.cols))
    (c.dot.ensures ∙ factor-dot c.args.batch.now c.args.coefs.now c.row.result.now c.contributors.k c.requires.coefs c.row.ensures.entries)
    c.set.ensures.row
