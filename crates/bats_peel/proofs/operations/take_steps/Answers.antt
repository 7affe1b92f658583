use Rattle.std.proofs.Common.{◌∙◌, arith}
use Rattle.bats_peel.proofs.PeeledLemmas.{next_place, next_fixing, next_steps, still_left}
use Rattle.bats_peel.proofs.operations.take_steps.Goals as goal

pub take_step-requires-clause-place : goal.take_step-requires-clause-place
take_step-requires-clause-place g c =
    next_place c.args.held.now.session c.args.locals.now c.steps.work.known.items c.args.steps.now c.steps.step-index c.step-item.result (omega arith)
    c.step-item.is c.steps.invariant.remaining

pub take_step-requires-clause-fixing : goal.take_step-requires-clause-fixing
take_step-requires-clause-fixing g c =
    λ d. next_fixing c.args.held.now.session c.args.locals.now c.steps.work.known.items c.args.steps.now c.steps.step-index c.step-item.result d (omega arith)
    c.step-item.is c.steps.invariant.remaining

pub steps-preserved : goal.steps-preserved
steps-preserved g c = record {
  work = c.in_ok-take_step.ensures.work;
  columns = c.in_ok-take_step.ensures.columns ∙ c.steps.invariant.columns;
  remaining = next_steps c.args.held.now.session c.args.locals.now c.steps.work.known.items c.take_step.new.work.known.items c.args.steps.now c.steps.step-index
      c.step-item.result (omega arith) c.step-item.is c.steps.invariant.remaining c.in_ok-take_step.ensures.known;
  untaken = λ k d low h.
      still_left c.steps.work c.take_step.new.work c.args.steps.now c.steps.step-index k c.step-item.result d c.requires.once c.step-item.is
      (omega (arith, low)) h c.in_ok-take_step.ensures.taken (c.steps.invariant.untaken k d (omega (arith, low)) h);
  coef_steps_rise = omega (arith, c.steps.invariant.coef_steps_rise, c.take_step.ensures.coef_steps_rise);
}
