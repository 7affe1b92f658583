use Rattle.std.proofs.Common.{subst, arith}
use Rattle.std.proofs.lemmas.Option.{get_or_from_slice_get, slice_get_within}
use Rattle.gf_rows.specs.Operation.{FitsRows}
use Rattle.bats_peel.proofs.PartLemmas.{Changes-no_ops, Changes-more_ops}
use Rattle.bats_peel.proofs.terms.replay.Goals as goal

pub ops-init : goal.ops-init
ops-init g c = record {
  changes = Changes-no_ops c.args.first c.args.count c.args.ops.now c.args.matrix.now c.args.plan.now c.requires.matrix;
  count = omega arith;
  coef_steps_rise = omega arith;
}

pub replay_op-requires-clause-fits : goal.replay_op-requires-clause-fits
replay_op-requires-clause-fits g c =
    subst (FitsRows c.args.count) (get_or_from_slice_get c.args.ops.now c.ops.i c.get.result c.get.result c.get.ensures.value)
    (c.requires.fits c.ops.i c.get.result (slice_get_within c.args.ops.now c.ops.i c.get.result c.get.ensures.value))

pub ops-preserved : goal.ops-preserved
ops-preserved g c = record {
  changes = Changes-more_ops c.args.first c.args.count c.ops.i c.args.ops.now c.get.result c.args.matrix.now c.ops.matrix c.replay_op.new.matrix
      c.args.plan.now c.ops.plan c.replay_op.new.plan c.get.ensures.value c.ops.invariant.changes c.in_ok-replay_op.ensures.changes;
  count = omega (arith, c.ops.invariant.count, c.in_ok-replay_op.ensures.count);
  coef_steps_rise = omega (arith, c.replay_op.ensures.coef_steps_rise);
}
