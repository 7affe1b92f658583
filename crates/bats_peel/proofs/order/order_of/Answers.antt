use Rattle.std.proofs.Common.{ℕ, ◌≡◌, ◌∙◌, Bool, true, List, All, length, ap, arith, refl, sym, subst}
use Rattle.bats_model.specs.Session.{SessionData, symbols_of}
use Rattle.bats_model.specs.Peeling.{is_in, HasAllSymbols}
use Rattle.bats_peel.specs.declared.local.Local.{Local}
use Rattle.bats_peel.specs.steps.Fixing.{IsLocal}
use Rattle.bats_peel.specs.steps.Search.{IsBest}
use Rattle.bats_peel.proofs.Ordering.{so_far-size, so_far-begin, so_far-next, next-fewer, best-same, inactive-begin, inactive-next, inactive-end, order-end}
use Rattle.bats_peel.proofs.order.order_of.Goals as goal

pub inactivation-init : goal.inactivation-init
inactivation-init g c = record {
  so_far =
      so_far-begin c.args.session.now c.args.locals.now c.begin.new.inactive c.in_ok-progress.progress c.in_ok-progress.ensures.list
      c.in_ok-progress.ensures.grows;
  inactive = inactive-begin c.args.session.now c.args.locals.now c.begin.new.inactive c.in_ok-progress.ensures.list;
  tested = c.in_ok-progress.ensures.tested;
  rise = omega (arith, c.in_ok-progress.ensures.coef_steps_rise);
}

pub next_inactive-requires-clause-known : goal.next_inactive-requires-clause-known
next_inactive-requires-clause-known g c =
    ap (λ (set : List Bool). length set) c.deref.ensures.value
    ∙ so_far-size c.args.session.now c.args.locals.now c.inactivation.inactive c.inactivation.progress c.inactivation.invariant.so_far
    ∙ sym c.symbols-symbols.ensures.value

pub inactivate-requires-clause-symbol : goal.inactivate-requires-clause-symbol
inactivate-requires-clause-symbol g c =
    omega (
      arith,
      c.in-Some.ensures.below,
      c.symbols-symbols.ensures.value,
      so_far-size c.args.session.now c.args.locals.now c.inactivation.inactive c.inactivation.progress c.inactivation.invariant.so_far,
    )

pub inactivate-requires-clause-locals : goal.inactivate-requires-clause-locals
inactivate-requires-clause-locals g c =
    subst (λ (n : ℕ). All (IsLocal n) c.args.locals.now)
    (sym (so_far-size c.args.session.now c.args.locals.now c.inactivation.inactive c.inactivation.progress c.inactivation.invariant.so_far))
    c.requires

pub inactivation-smaller : goal.inactivation-smaller
inactivation-smaller g c =
    let session : SessionData = c.args.session.now in
    let known : List Bool = c.inactivation.progress.known.items in
    let counts : List ℕ = c.in_ok-counts.counts.items in
    let best : IsBest known counts (symbols_of session) c.in-Some.symbol =
    best-same c.deref.result.now known c.deref-in-inactivation.result.now counts c.symbols-symbols.result (symbols_of session) c.in-Some.symbol
    c.deref.ensures.value c.deref-in-inactivation.ensures.value c.symbols-symbols.ensures.value c.in-Some.ensures in
    next-fewer c.args.locals.now (symbols_of session) c.inactivation.progress c.inactivate.new.progress c.in-Some.symbol c.requires
    (so_far-size session c.args.locals.now c.inactivation.inactive c.inactivation.progress c.inactivation.invariant.so_far)
    best.below best.outside c.in_ok-inactivate.ensures.grows

pub inactivation-preserved : goal.inactivation-preserved
inactivation-preserved g c =
    let session : SessionData = c.args.session.now in
    let locals : List Local = c.args.locals.now in
    let list : List ℕ = c.inactivation.inactive in
    let after : List ℕ = c.inactivate.new.inactive in
    let known : List Bool = c.inactivation.progress.known.items in
    let counts : List ℕ = c.in_ok-counts.counts.items in
    let best : IsBest known counts (symbols_of session) c.in-Some.symbol =
    best-same c.deref.result.now known c.deref-in-inactivation.result.now counts c.symbols-symbols.result (symbols_of session) c.in-Some.symbol
    c.deref.ensures.value c.deref-in-inactivation.ensures.value c.symbols-symbols.ensures.value c.in-Some.ensures in
    record {
      so_far =
          so_far-next session locals list after c.inactivation.progress c.inactivate.new.progress c.in-Some.symbol c.inactivation.invariant.so_far
          best.below best.outside c.in_ok-inactivate.ensures.list c.in_ok-inactivate.ensures.grows;
      inactive =
          inactive-next session locals list after counts c.inactivation.progress c.in-Some.symbol c.inactivation.invariant.so_far
          c.inactivation.invariant.inactive (c.in_ok-counts.ensures.size ∙ c.symbols-symbols.ensures.value) c.in_ok-counts.ensures.counts best
          c.in_ok-inactivate.ensures.list;
      tested = c.in_ok-inactivate.ensures.tested;
      rise = omega (arith, c.inactivation.invariant.rise, c.in_ok-inactivate.ensures.coef_steps_rise);
    }

pub returns-clause-order : goal.returns-clause-order
returns-clause-order g c =
    let session : SessionData = c.args.session.now in
    let all : HasAllSymbols session c.inactivation.progress.known.items = λ s below.
    subst (λ (set : List Bool). is_in set s ≡ true) c.deref.ensures.value
    (c.in_default.ensures s (omega (arith, below, c.symbols-symbols.ensures.value))) in
    order-end session c.args.locals.now (record { inactive = c.inactivation.inactive; steps = c.inactivation.progress.steps })
    c.inactivation.progress c.requires c.inactivation.invariant.so_far refl all

pub returns-clause-inactive : goal.returns-clause-inactive
returns-clause-inactive g c =
    let session : SessionData = c.args.session.now in
    let all : HasAllSymbols session c.inactivation.progress.known.items = λ s below.
    subst (λ (set : List Bool). is_in set s ≡ true) c.deref.ensures.value
    (c.in_default.ensures s (omega (arith, below, c.symbols-symbols.ensures.value))) in
    inactive-end session c.args.locals.now c.inactivation.inactive c.inactivation.progress c.inactivation.invariant.so_far
    c.inactivation.invariant.inactive all
