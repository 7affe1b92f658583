use Rattle.std.proofs.Common.{◌∙◌, sym}
use Rattle.bats_decode.proofs.LeftLemmas.{AreOwnRows-row, AreOwnRows-column}
use Rattle.bats_decode.proofs.elimination.own_rows.Goals as goal
use Rattle.bats_decode.proofs.elimination.own_rows.Goals.{in-Row+in_ok-push-in-Row, in-Column}

pub symbols-preserved : goal.symbols-preserved
symbols-preserved c = elim c.match-get.branch [
  | in-Row+in_ok-push-in-Row w ↦
      AreOwnRows-row c.symbols.s c.args.symbols w.in-Row.r c.args.left.now c.symbols.rows c.match-get.rows c.symbols.invariant
      c.requires.once c.symbols-test.true (sym c.get.ensures ∙ w.in-Row.is) (w.rows-is ∙ w.in_ok-push-in-Row.ensures.ok)
  | in-Column w ↦
      AreOwnRows-column c.symbols.s w.in-Column.field-0 c.args.left.now c.symbols.rows c.match-get.rows c.symbols.invariant
      (sym c.get.ensures ∙ w.in-Column.is) w.rows-is
]
