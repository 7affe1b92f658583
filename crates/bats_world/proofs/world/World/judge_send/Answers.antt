use Rattle.std.proofs.Common.{ap, sym, subst, arith, List, length}
use Rattle.bats_model.specs.Session.{SessionData}
use Rattle.bats_world.specs.Standing.{StandsFor}
use Rattle.bats_world.specs.declared.made.Made.{Made}
use Rattle.bats_world.proofs.Outcomes.{send-column, send-full, send-passes}
use Rattle.bats_world.proofs.world.World.judge_send.Goals as goal

pub returns-then-column-from-clause-refuses : goal.returns-then-column-from-clause-refuses
returns-then-column-from-clause-refuses c state batch stands =
    let w = subst (StandsFor state) (sym c.self.view_is) stands in
    send-column state batch c.args.column
    (omega (arith, c.if-column-from.true, c.from.ensures, c.m.ensures.value, ap (λ (s : SessionData). s.m) w.session))

pub returns-then-len-ge-MAX_POOL-clause-refuses : goal.returns-then-len-ge-MAX_POOL-clause-refuses
returns-then-len-ge-MAX_POOL-clause-refuses c state batch stands =
    let w = subst (StandsFor state) (sym c.self.view_is) stands in
    send-full state batch c.args.column
    (omega (arith, c.if-column-from.false, c.from.ensures, c.m.ensures.value, ap (λ (s : SessionData). s.m) w.session))
    (omega (arith, c.if-len-ge-MAX_POOL.true, c.len.ensures, ap (λ (p : List Made). length p) w.pool))

pub returns-clause-passes : goal.returns-clause-passes
returns-clause-passes c state batch stands =
    let w = subst (StandsFor state) (sym c.self.view_is) stands in
    send-passes state batch c.args.column
    (omega (arith, c.if-column-from.false, c.from.ensures, c.m.ensures.value, ap (λ (s : SessionData). s.m) w.session))
    (omega (arith, c.if-len-ge-MAX_POOL.false, c.len.ensures, ap (λ (p : List Made). length p) w.pool))
