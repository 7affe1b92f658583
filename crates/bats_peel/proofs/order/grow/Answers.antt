use Rattle.std.proofs.Common.{ℕ, ◌≡◌, All, Bool, List, length, sym, subst, arith}
use Rattle.bats_peel.specs.declared.local.Local.{Local}
use Rattle.bats_peel.specs.steps.Fixing.{IsLocal}
use Rattle.bats_peel.proofs.Searching.{goes-none, goes-then, goes-size, goes-longer, goes-fewer, grows-end}
use Rattle.bats_peel.proofs.order.grow.Goals as goal

pub rounds-init : goal.rounds-init
rounds-init g c = record { goes = goes-none c.args.locals.now c.args.progress.now; tested = c.requires.tested; rise = omega arith }

pub rounds-preserved : goal.rounds-preserved
rounds-preserved g c = record {
  goes =
      goes-then c.args.locals.now c.args.progress.now.known.items c.args.progress.now.steps.items c.rounds.progress c.round.new.progress
      c.rounds.invariant.goes c.in_ok-round.ensures.tries.goes;
  tested = c.in_ok-round.ensures.tested;
  rise = omega (arith, c.rounds.invariant.rise, c.in_ok-round.ensures.coef_steps_rise);
}

pub rounds-smaller : goal.rounds-smaller
rounds-smaller g c =
    let locals : List Local = c.args.locals.now in
    let first : List Bool = c.args.progress.now.known.items in
    let size : length c.rounds.progress.known.items ≡ length first =
    goes-size locals first c.args.progress.now.steps.items c.rounds.progress c.rounds.invariant.goes in
    omega (
      arith,
      goes-longer locals c.rounds.progress.known.items c.rounds.progress.steps.items c.round.new.progress c.in_ok-round.ensures.tries.goes,
      goes-fewer locals (length first) c.rounds.progress.known.items c.rounds.progress.steps.items c.round.new.progress c.requires.locals size
          c.in_ok-round.ensures.tries.goes,
    )

pub round-requires : goal.round-requires
round-requires g c = record {
  tested = c.rounds.invariant.tested;
  locals =
      subst (λ (n : ℕ). All (IsLocal n) c.args.locals.now)
      (sym (goes-size c.args.locals.now c.args.progress.now.known.items c.args.progress.now.steps.items c.rounds.progress c.rounds.invariant.goes))
      c.requires.locals;
}

pub returns-then-len-before-clause-grows : goal.returns-then-len-before-clause-grows
returns-then-len-before-clause-grows g c =
    grows-end c.args.locals.now c.args.progress.now.known.items c.args.progress.now.steps.items c.rounds.progress c.round.new.progress
    c.rounds.invariant.goes c.in_ok-round.ensures.tries (omega arith)
