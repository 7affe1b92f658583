use Rattle.std.proofs.Common.{◌≡◌, ◌<◌, ◌≤◌, ◌+◌, ◌*◌, ◌∙◌, ap, sym, subst, arith, List, length, get_or, Bool, true, false, inl, inr}
use Rattle.std.proofs.lemmas.Bool.{cases_eq, false≢true}
use Rattle.std.proofs.lemmas.List.{get_or_default}
use Rattle.bats_world.specs.World.{has_link, made_at, no_made}
use Rattle.bats_world.specs.Standing.{StandsFor, IsTableOf}
use Rattle.bats_world.specs.declared.made.Made.{Made}
use Rattle.bats_world.proofs.Outcomes.{give-packet, give-node, give-link, give-passes}
use Rattle.bats_world.proofs.world.World.judge_give.Goals as goal

pub returns-then-place-len-clause-refuses : goal.returns-then-place-len-clause-refuses
returns-then-place-len-clause-refuses c state stands =
    let w = subst (StandsFor state) (sym c.self.view_is) stands in
    give-packet state c.args.place c.args.node
    (omega (arith, c.if-place-len.true, c.len.ensures, ap (λ (p : List Made). length p) w.pool))

pub returns-then-node-len-clause-refuses : goal.returns-then-node-len-clause-refuses
returns-then-node-len-clause-refuses c state stands =
    let w = subst (StandsFor state) (sym c.self.view_is) stands in
    give-node state c.args.place c.args.node
    (omega (arith, c.if-place-len.false, c.len.ensures, ap (λ (p : List Made). length p) w.pool))
    (omega (arith, c.if-node-len.true, c.len-2.ensures, w.count))

pub returns-then-not-is_linked-clause-refuses : goal.returns-then-not-is_linked-clause-refuses
returns-then-not-is_linked-clause-refuses c state stands =
    let w = subst (StandsFor state) (sym c.self.view_is) stands in
    let there : c.args.place < length c.self.inside.pool.items = omega (arith, c.if-place-len.false, c.len.ensures) in
    let made : c.index.result.now ≡ made_at state.pool c.args.place =
    c.index.ensures ∙ (get_or_default c.self.inside.pool.items c.args.place c.index.result.now no_made there
    ∙ ap (λ (p : List Made). made_at p c.args.place) w.pool) in
    give-link state c.args.place c.args.node
    (omega (arith, there, ap (λ (p : List Made). length p) w.pool))
    (omega (arith, c.if-node-len.false, c.len-2.ensures, w.count))
    (ap (λ (m : Made). has_link state.links m.maker c.args.node) (sym made)
    ∙ (sym (c.is_linked.ensures.told state.links (subst (IsTableOf state.links) (sym c.deref.ensures.value) w.links))
    ∙ c.if-not-is_linked.true))

pub returns-clause-node : goal.returns-clause-node
returns-clause-node c = elim (cases_eq c.args.node 0) [
  | inl e ↦
      let there : c.args.place < length c.self.inside.pool.items = omega (arith, c.if-place-len.false, c.len.ensures) in
      let made : c.index.result.now ≡ made_at c.self.inside.pool.items c.args.place =
      c.index.ensures ∙ get_or_default c.self.inside.pool.items c.args.place c.index.result.now no_made there in
      let maker : c.index.result.now.maker ≤ length c.self.inside.mixers.items =
      subst (λ (m : Made). m.maker ≤ length c.self.inside.mixers.items) (sym made)
      (c.self.invariant.1.makers c.args.place no_made there) in
      let none : get_or c.self.inside.linked.items (c.index.result.now.maker * 18 + c.args.node) false ≡ false =
      subst (λ n. get_or c.self.inside.linked.items n false ≡ false) (omega (arith, e))
      (c.self.invariant.1.one_way c.index.result.now.maker (omega (arith, maker, c.self.invariant.1.few))) in
      let found : false ≡ true =
      sym none ∙ (ap (λ (t : List Bool). get_or t (c.index.result.now.maker * 18 + c.args.node) false) (sym c.deref.ensures.value)
      ∙ (sym c.is_linked.ensures.value ∙ c.if-not-is_linked.false)) in
      absurd (false≢true found)
  | inr differ ↦ omega (arith, differ)
]

pub returns-clause-passes : goal.returns-clause-passes
returns-clause-passes c state stands =
    let w = subst (StandsFor state) (sym c.self.view_is) stands in
    let there : c.args.place < length c.self.inside.pool.items = omega (arith, c.if-place-len.false, c.len.ensures) in
    let made : c.index.result.now ≡ made_at state.pool c.args.place =
    c.index.ensures ∙ (get_or_default c.self.inside.pool.items c.args.place c.index.result.now no_made there
    ∙ ap (λ (p : List Made). made_at p c.args.place) w.pool) in
    give-passes state c.args.place c.args.node
    (omega (arith, there, ap (λ (p : List Made). length p) w.pool))
    (omega (arith, c.if-node-len.false, c.len-2.ensures, w.count))
    (ap (λ (m : Made). has_link state.links m.maker c.args.node) (sym made)
    ∙ (sym (c.is_linked.ensures.told state.links (subst (IsTableOf state.links) (sym c.deref.ensures.value) w.links))
    ∙ c.if-not-is_linked.false))
