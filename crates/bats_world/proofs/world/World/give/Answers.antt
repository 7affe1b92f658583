use Rattle.std.proofs.Common.{◌≡◌, ◌≤◌, ◌-◌, ap, sym, subst, arith, List, length, Err}
use Rattle.bats_model.specs.declared.packet.Packet.{Packet}
use Rattle.bats_relay.specs.Mixer.{MixerData}
use Rattle.bats_world.specs.World.{NetworkState, with_given, after_event, sink_of}
use Rattle.bats_world.specs.Standing.{WorldData, StandsFor}
use Rattle.bats_world.specs.steps.Inside.{IsWorld}
use Rattle.bats_world.specs.declared.event.Event.TheVariants.{Give}
use Rattle.bats_world.proofs.Giving.{cause-exit, sink-refuses, sink-takes, relay-refuses, relay-takes}
use Rattle.bats_world.proofs.RelayChanges.{whole-written, Gets, Refuses}
use Rattle.bats_world.proofs.StateSteps.{StandsFor-given_relay, StandsFor-given_sink}
use Rattle.bats_world.proofs.WorldSteps.{IsWorld-given}
use Rattle.bats_world.proofs.world.World.give.Goals as goal

pub returns-in_err-offer-clause-cause : goal.returns-in_err-offer-clause-cause
returns-in_err-offer-clause-cause g c =
    let inside = c.self.inside in
    let world : WorldData = record {
      session = inside.session;
      file = inside.encoder.file;
      relays = inside.mixers.items;
      linked = inside.linked.items;
      pool = inside.pool.items;
      sink = inside.sink;
    } in
    cause-exit c.from_residual-in_err-offer.result c.in_err-offer.field-0.0
    (λ e. (state : NetworkState) → StandsFor state c.args.self.now → after_event state (Give c.args.place c.args.node) ≡ Err e)
    c.from_residual-in_err-offer.ensures.1
    (λ full state stands.
    let w : StandsFor state world = subst (StandsFor state) (sym c.self.view_is) stands in
    let refused = c.in_err-offer.ensures.collects.full full in
    sink-refuses state world w c.self.invariant.1 c.args.place c.args.node c.index.result.now
    (omega (arith, c.in_ok-judge_give.ensures.place, ap (λ (w : WorldData). length w.pool) c.self.view_is))
    c.index.ensures (c.in_ok-judge_give.ensures.passes state stands)
    (omega (arith, c.if-node-len.true, c.len.ensures, c.in_ok-judge_give.ensures.within, ap (λ (w : WorldData). length w.relays) c.self.view_is, w.count))
    refused.0 refused.1)

pub returns-then-node-len-clause-ok : goal.returns-then-node-len-clause-ok
returns-then-node-len-clause-ok g c state stands =
    let inside = c.self.inside in
    let world : WorldData = record {
      session = inside.session;
      file = inside.encoder.file;
      relays = inside.mixers.items;
      linked = inside.linked.items;
      pool = inside.pool.items;
      sink = inside.sink;
    } in
    let w : StandsFor state world = subst (StandsFor state) (sym c.self.view_is) stands in
    let packet : Packet = c.index.result.now.packet in
    let last : c.args.node ≡ sink_of state =
    omega (arith, c.if-node-len.true, c.len.ensures, c.in_ok-judge_give.ensures.within, ap (λ (w : WorldData). length w.relays) c.self.view_is, w.count) in (
      with_given state c.args.node packet,
      (
        sink-takes state world w c.self.invariant.1 c.args.place c.args.node c.index.result.now
            (omega (arith, c.in_ok-judge_give.ensures.place, ap (λ (w : WorldData). length w.pool) c.self.view_is))
            c.index.ensures (c.in_ok-judge_give.ensures.passes state stands) last c.in_ok-offer.ensures.collects.room,
        StandsFor-given_sink state world w c.args.node packet c.offer.new.self last c.in_ok-offer.ensures.collects.session
            c.in_ok-offer.ensures.collects.stands,
      ),
    )

pub returns-in_err-offer-2-clause-cause : goal.returns-in_err-offer-2-clause-cause
returns-in_err-offer-2-clause-cause g c =
    let inside = c.self.inside in
    let world : WorldData = record {
      session = inside.session;
      file = inside.encoder.file;
      relays = inside.mixers.items;
      linked = inside.linked.items;
      pool = inside.pool.items;
      sink = inside.sink;
    } in
    let packet : Packet = c.index.result.now.packet in
    let refused : Refuses (c.args.node - 1) packet c.in_err-offer-2.field-0.0 inside.mixers.items =
    subst (Refuses (c.args.node - 1) packet c.in_err-offer-2.field-0.0) c.deref_mut.ensures.value
    (record { full = c.in_err-offer-2.ensures.offers.full }) in
    cause-exit c.from_residual-in_err-offer-2.result c.in_err-offer-2.field-0.0
    (λ e. (state : NetworkState) → StandsFor state c.args.self.now → after_event state (Give c.args.place c.args.node) ≡ Err e)
    c.from_residual-in_err-offer-2.ensures.1
    (λ full state stands.
    let w : StandsFor state world = subst (StandsFor state) (sym c.self.view_is) stands in
    let both = refused.full full in
    relay-refuses state world w c.self.invariant.1 c.args.place c.args.node c.index.result.now
    (omega (arith, c.in_ok-judge_give.ensures.place, ap (λ (w : WorldData). length w.pool) c.self.view_is))
    c.index.ensures (c.in_ok-judge_give.ensures.passes state stands)
    (omega (arith, c.in_ok-judge_give.ensures.node)) (omega (arith, c.if-node-len.false, c.len.ensures)) both.0 both.1)

pub invariant_of-self-2 : goal.invariant_of-self-2
invariant_of-self-2 g c =
    let inside = c.self.inside in
    let world : WorldData = record {
      session = inside.session;
      file = inside.encoder.file;
      relays = inside.mixers.items;
      linked = inside.linked.items;
      pool = inside.pool.items;
      sink = inside.sink;
    } in
    let packet : Packet = c.index.result.now.packet in
    let relays : List MixerData = c.offer-2.new.mixers in
    let gets : Gets (c.args.node - 1) packet c.in_ok-offer-2.field-0 relays inside.mixers.items =
    subst (Gets (c.args.node - 1) packet c.in_ok-offer-2.field-0 relays) c.deref_mut.ensures.value (record {
      offers = c.in_ok-offer-2.ensures.offers;
      seed = c.offer-2.ensures.seed;
      sent = c.offer-2.ensures.sent;
      others = c.offer-2.ensures.others;
    }) in (
      c.self.invariant.0,
      subst (λ (r : List MixerData). IsWorld (record {
        session = inside.session;
        file = inside.encoder.file;
        relays = r;
        linked = inside.linked.items;
        pool = inside.pool.items;
        sink = inside.sink;
      })) (sym (whole-written inside.mixers.len inside.mixers.items relays inside.mixers.ok.0 gets.others.count))
          (IsWorld-given world c.self.invariant.1 relays (c.args.node - 1)
          (omega (arith, c.in_ok-judge_give.ensures.node, c.if-node-len.false, c.len.ensures)) gets.others gets.offers.session gets.sent),
    )

pub returns-clause-ok : goal.returns-clause-ok
returns-clause-ok g c state stands =
    let inside = c.self.inside in
    let world : WorldData = record {
      session = inside.session;
      file = inside.encoder.file;
      relays = inside.mixers.items;
      linked = inside.linked.items;
      pool = inside.pool.items;
      sink = inside.sink;
    } in
    let w : StandsFor state world = subst (StandsFor state) (sym c.self.view_is) stands in
    let packet : Packet = c.index.result.now.packet in
    let relays : List MixerData = c.offer-2.new.mixers in
    let gets : Gets (c.args.node - 1) packet c.in_ok-offer-2.field-0 relays inside.mixers.items =
    subst (Gets (c.args.node - 1) packet c.in_ok-offer-2.field-0 relays) c.deref_mut.ensures.value (record {
      offers = c.in_ok-offer-2.ensures.offers;
      seed = c.offer-2.ensures.seed;
      sent = c.offer-2.ensures.sent;
      others = c.offer-2.ensures.others;
    }) in
    let low : 1 ≤ c.args.node = omega (arith, c.in_ok-judge_give.ensures.node) in
    let high : c.args.node ≤ length inside.mixers.items = omega (arith, c.if-node-len.false, c.len.ensures) in (
      with_given state c.args.node packet,
      (
        relay-takes state world w c.self.invariant.1 c.args.place c.args.node c.index.result.now
            (omega (arith, c.in_ok-judge_give.ensures.place, ap (λ (w : WorldData). length w.pool) c.self.view_is))
            c.index.ensures (c.in_ok-judge_give.ensures.passes state stands) low high c.in_ok-offer-2.field-0 gets.offers.taken gets.offers.room,
        subst (λ (r : List MixerData). StandsFor (with_given state c.args.node packet) (record {
          session = inside.session;
          file = inside.encoder.file;
          relays = r;
          linked = inside.linked.items;
          pool = inside.pool.items;
          sink = inside.sink;
        })) (sym (whole-written inside.mixers.len inside.mixers.items relays inside.mixers.ok.0 gets.others.count))
            (StandsFor-given_relay state world w c.args.node (c.args.node - 1) packet relays (omega (arith, low))
            (omega (arith, low, high)) gets.others gets.offers.session gets.seed gets.sent gets.offers.stands),
      ),
    )
