use Rattle.std.proofs.Common.{◌∙◌, sym, append-nil}
use Rattle.bats_decode.specs.declared.elimination.Origin.TheVariants.{Row, Free}
use Rattle.bats_decode.proofs.Solving.{symbol_rows-none, symbol_rows-more}
use Rattle.bats_decode.proofs.decoder.rows_of.Goals as goal
use Rattle.bats_decode.proofs.decoder.rows_of.Goals.{in-Row+in_ok-push-in-Row, in-Free}

pub origins-init : goal.origins-init
origins-init c = c.new-rows.ensures ∙ sym (symbol_rows-none c.args.origins.now)

pub origins-preserved : goal.origins-preserved
origins-preserved c = elim c.match-origin.branch [
  | in-Row+in_ok-push-in-Row w ↦
      symbol_rows-more c.args.origins.now c.origins.origin-index (Row 0) (Row w.in-Row.r) c.origins.rows c.match-origin.rows c.origins-test.true
      w.in-Row.is c.origins.invariant (w.rows-is ∙ w.in_ok-push-in-Row.ensures.ok)
  | in-Free w ↦
      symbol_rows-more c.args.origins.now c.origins.origin-index (Row 0) (Free w.in-Free.field-0) c.origins.rows c.match-origin.rows
      c.origins-test.true w.in-Free.is c.origins.invariant (w.rows-is ∙ sym (append-nil c.origins.rows))
]
