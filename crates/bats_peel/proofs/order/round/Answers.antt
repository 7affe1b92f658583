use Rattle.std.proofs.Common.{ℕ, ◌+◌, All, sym, subst, arith}
use Rattle.bats_peel.specs.steps.Fixing.{IsLocal}
use Rattle.bats_peel.proofs.Searching.{goes-size, tries-none, tries-then}
use Rattle.bats_peel.proofs.order.round.Goals as goal

pub places-init : goal.places-init
places-init g c = record { tries = tries-none c.args.locals.now 0 c.args.progress.now; tested = c.requires.tested; rise = omega arith }

pub places-preserved : goal.places-preserved
places-preserved g c = record {
  tries =
      tries-then c.args.locals.now 0 c.places.place (c.places.place + 1) c.args.progress.now c.places.progress c.try_batch.new.progress
      c.places.invariant.tries c.in_ok-try_batch.ensures.tries;
  tested = c.in_ok-try_batch.ensures.tested;
  rise = omega (arith, c.places.invariant.rise, c.in_ok-try_batch.ensures.coef_steps_rise);
}

pub try_batch-requires-clause-locals : goal.try_batch-requires-clause-locals
try_batch-requires-clause-locals g c =
    subst (λ (n : ℕ). All (IsLocal n) c.args.locals.now)
    (sym (goes-size c.args.locals.now c.args.progress.now.known.items c.args.progress.now.steps.items c.places.progress c.places.invariant.tries.goes))
    c.requires.locals
