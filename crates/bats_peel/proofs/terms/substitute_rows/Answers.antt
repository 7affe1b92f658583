use Rattle.std.proofs.Common.{length, arith}
use Rattle.bats_peel.proofs.PartLemmas.{Changes-more_terms}
use Rattle.bats_peel.proofs.terms.substitute_rows.Goals as goal

pub rows-preserved : goal.rows-preserved
rows-preserved g c = record {
  changes = Changes-more_terms c.args.local.now (length c.args.local.now.matrix.rows) c.rows.i c.args.places.now c.args.known.now
      c.args.matrix.now c.rows.matrix c.take_terms.new.matrix c.args.plan.now c.rows.plan c.take_terms.new.plan c.rows.invariant.changes
      c.in_ok-take_terms.ensures.sets (omega arith) c.requires.local c.requires.beyond;
  count = omega (arith, c.rows.invariant.count, c.in_ok-take_terms.ensures.count);
  coef_steps_rise = omega (arith, c.take_terms.ensures.coef_steps_rise);
}
