use Rattle.std.proofs.Common.{◌≡◌, ◌<◌, ◌≤◌, ◌∙◌, ap, sym, subst, arith, List, [], ◌-◌, length, not}
use Rattle.bats_model.specs.declared.packet.Packet.{Packet}
use Rattle.bats_batch.specs.Held.{HeldData, kept_at}
use Rattle.bats_relay.specs.Mixer.{MixerData}
use Rattle.bats_world.specs.Standing.{StandsFor, relay_at}
use Rattle.bats_world.specs.declared.made.Made.{Made}
use Rattle.bats_world.proofs.Outcomes.{mix-node, mix-source, mix-sink, mix-nothing, mix-full, mix-passes}
use Rattle.bats_world.proofs.RelayChanges.{of-none, of-some, relay-read, kept-same}
use Rattle.bats_world.proofs.world.World.judge_mix.Goals as goal
use Rattle.bats_world.proofs.world.World.judge_mix.Goals.{then-node-eq0-via-then-node-eq0, then-node-eq0-via-else-node-eq0+then-node-relays-2}

pub returns-then-node-relays-clause-refuses : goal.returns-then-node-relays-clause-refuses
returns-then-node-relays-clause-refuses c state stands =
    let w = subst (StandsFor state) (sym c.self.view_is) stands in
    mix-node state c.args.node c.args.batch (omega (arith, c.if-node-relays.true, c.len-relays.ensures, w.count))

pub returns-then-node-eq0-clause-refuses : goal.returns-then-node-eq0-clause-refuses
returns-then-node-eq0-clause-refuses c state stands =
    let s = subst (StandsFor state) (sym c.self.view_is) stands in
    elim c.then-node-eq0.branch [
      | then-node-eq0-via-then-node-eq0 w ↦ mix-source state c.args.node c.args.batch (omega (arith, w.if-node-eq0.true))
      | then-node-eq0-via-else-node-eq0+then-node-relays-2 w ↦
          mix-sink state c.args.node c.args.batch
          (omega (arith, w.if-node-relays-2.true, c.if-node-relays.false, c.len-relays.ensures, s.count))
    ]

pub returns-then-is_none-clause-refuses : goal.returns-then-is_none-clause-refuses
returns-then-is_none-clause-refuses c state stands =
    let w = subst (StandsFor state) (sym c.self.view_is) stands in
    let low : 1 ≤ c.args.node = omega (arith, c.if-node-eq0.false) in
    let high : c.args.node ≤ length c.self.inside.mixers.items = omega (arith, c.if-node-relays-2.false, c.len-relays.ensures) in
    let relay : c.held.result.now ≡ (relay_at c.self.inside.mixers.items (c.args.node - 1)).held =
    c.held.ensures ∙ ap (λ (r : MixerData). r.held)
    (c.index.ensures ∙ relay-read c.self.inside.mixers.items (c.args.node - 1) c.index.result.now (omega (arith, low, high))) in
    let none : kept_at c.held.result.now.batches c.args.batch ≡ [] =
    of-none c.basis_of.result _ _ (c.if-is_none.ensures) c.basis_of.ensures in
    let same = kept-same state _ w c.args.node low high c.args.batch in
    mix-nothing state c.args.node c.args.batch low (omega (arith, high, w.count))
    (ap (λ (l : List Packet). length l)
    (sym same ∙ (ap (λ (h : HeldData). kept_at h.batches c.args.batch) (sym relay) ∙ none)))

pub returns-then-len-ge-MAX_POOL-clause-refuses : goal.returns-then-len-ge-MAX_POOL-clause-refuses
returns-then-len-ge-MAX_POOL-clause-refuses c state stands =
    let w = subst (StandsFor state) (sym c.self.view_is) stands in
    let low : 1 ≤ c.args.node = omega (arith, c.if-node-eq0.false) in
    let high : c.args.node ≤ length c.self.inside.mixers.items = omega (arith, c.if-node-relays-2.false, c.len-relays.ensures) in
    let relay : c.held.result.now ≡ (relay_at c.self.inside.mixers.items (c.args.node - 1)).held =
    c.held.ensures ∙ ap (λ (r : MixerData). r.held)
    (c.index.ensures ∙ relay-read c.self.inside.mixers.items (c.args.node - 1) c.index.result.now (omega (arith, low, high))) in
    let some : 0 < length (kept_at c.held.result.now.batches c.args.batch) =
    of-some c.basis_of.result _ _ _ (c.is_none.ensures ∙ ap not c.if-is_none.false)
    (λ basis h. subst (λ (l : List Packet). 0 < length l) (ap (λ b. b.kept) h.0) h.1) c.basis_of.ensures in
    let same = kept-same state _ w c.args.node low high c.args.batch in
    mix-full state c.args.node c.args.batch low (omega (arith, high, w.count))
    (subst (λ (l : List Packet). 0 < length l) (ap (λ (h : HeldData). kept_at h.batches c.args.batch) relay ∙ same) some)
    (omega (arith, c.if-len-ge-MAX_POOL.true, c.len.ensures, ap (λ (p : List Made). length p) w.pool))

pub returns-clause-passes : goal.returns-clause-passes
returns-clause-passes c state stands =
    let w = subst (StandsFor state) (sym c.self.view_is) stands in
    let low : 1 ≤ c.args.node = omega (arith, c.if-node-eq0.false) in
    let high : c.args.node ≤ length c.self.inside.mixers.items = omega (arith, c.if-node-relays-2.false, c.len-relays.ensures) in
    let relay : c.held.result.now ≡ (relay_at c.self.inside.mixers.items (c.args.node - 1)).held =
    c.held.ensures ∙ ap (λ (r : MixerData). r.held)
    (c.index.ensures ∙ relay-read c.self.inside.mixers.items (c.args.node - 1) c.index.result.now (omega (arith, low, high))) in
    let some : 0 < length (kept_at c.held.result.now.batches c.args.batch) =
    of-some c.basis_of.result _ _ _ (c.is_none.ensures ∙ ap not c.if-is_none.false)
    (λ basis h. subst (λ (l : List Packet). 0 < length l) (ap (λ b. b.kept) h.0) h.1) c.basis_of.ensures in
    let same = kept-same state _ w c.args.node low high c.args.batch in
    mix-passes state c.args.node c.args.batch low (omega (arith, high, w.count))
    (subst (λ (l : List Packet). 0 < length l) (ap (λ (h : HeldData). kept_at h.batches c.args.batch) relay ∙ same) some)
    (omega (arith, c.if-len-ge-MAX_POOL.false, c.len.ensures, ap (λ (p : List Made). length p) w.pool))
