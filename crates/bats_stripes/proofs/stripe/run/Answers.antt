use Rattle.std.proofs.Common.{sym}
use Rattle.gf_rows.specs.Matrix.{rows_of}
use Rattle.bats_stripes.proofs.PlanSteps.{plan-none, plan-more, fits-at}
use Rattle.bats_stripes.proofs.stripe.run.Goals as goal

pub operations-init : goal.operations-init
operations-init c = (c.requires.size, sym (plan-none c.args.plan.now (rows_of c.args.rows c.args.stride c.args.stripe.now)))

pub perform-requires-clause-fits : goal.perform-requires-clause-fits
perform-requires-clause-fits c =
    fits-at c.args.plan.now c.operations.i c.args.rows c.get.result c.requires.fits c.get.ensures.value

pub operations-preserved : goal.operations-preserved
operations-preserved c = (
  c.perform.ensures.size,
  plan-more c.args.plan.now c.operations.i c.get.result (rows_of c.args.rows c.args.stride c.args.stripe.now) (rows_of c.args.rows c.args.stride c.operations.stripe)
      (rows_of c.args.rows c.args.stride c.perform.new.stripe) c.get.ensures.value c.operations.invariant.1 c.perform.ensures.rows,
)
