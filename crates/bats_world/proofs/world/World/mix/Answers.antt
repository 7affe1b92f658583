use Rattle.std.proofs.Common.{◌≡◌, ◌≤◌, ◌-◌, ◌∙◌, ap, sym, subst, arith, List, ◌∷◌, ◌++◌, [], length, take, drop, inl, inr}
use Rattle.std.proofs.lemmas.Bool.{cases_eq}
use Rattle.bats_model.specs.declared.packet.Packet.{Packet}
use Rattle.bats_relay.specs.Mixer.{MixerData}
use Rattle.bats_world.specs.World.{next_output, with_made}
use Rattle.bats_world.specs.Standing.{WorldData, StandsFor, relay_at}
use Rattle.bats_world.specs.steps.Inside.{IsWorld}
use Rattle.bats_world.specs.declared.made.Made.{Made}
use Rattle.bats_world.proofs.RelayChanges.{whole-written, is-next_output, batch-next, Mixes, some-if, some-match}
use Rattle.bats_world.proofs.StateSteps.{StandsFor-made, HasMade, HasMade-other, HasMade-own}
use Rattle.bats_world.proofs.WorldSteps.{IsWorld-mixed}
use Rattle.bats_world.proofs.world.World.mix.Goals as goal

pub invariant_of-self-2 : goal.invariant_of-self-2
invariant_of-self-2 c =
    let inside = c.self.inside in
    let world : WorldData = record {
      session = inside.session;
      file = inside.encoder.file;
      relays = inside.mixers.items;
      linked = inside.linked.items;
      pool = inside.pool.items;
      sink = inside.sink;
    } in
    let is : IsWorld world = c.self.invariant.1 in
    let packet : Packet = c.in-Some.packet in
    let made : Made = record { maker = c.args.node; packet = packet } in
    let relays : List MixerData = c.next_of.new.mixers in
    let mixes : Mixes (c.args.node - 1) c.args.batch packet relays inside.mixers.items =
    subst (Mixes (c.args.node - 1) c.args.batch packet relays) c.deref_mut.ensures.value (record {
      output = some-if c.in_ok-packet.field-0 packet _ c.in-Some.is c.in_ok-packet.ensures.output;
      shape = some-if c.in_ok-packet.field-0 packet _ c.in-Some.is c.in_ok-packet.ensures.shape;
      sent = some-match c.in_ok-packet.field-0 packet _ _ c.in-Some.is c.in_ok-packet.ensures.sent;
      others = c.next_of.ensures.others;
    }) in
    let high : c.args.node ≤ length inside.mixers.items =
    omega (arith, c.in_ok-judge_mix.ensures.within, ap (λ (w : WorldData). length w.relays) c.self.view_is) in
    let pool : c.add.new.pool.items ≡ inside.pool.items ++ made ∷ [] =
    c.in_ok-add.ensures.ok ∙ ap (λ (p : List Made). p ++ made ∷ []) c.in_ok-reserve.ensures.items in (
      c.self.invariant.0,
      subst (λ (p : List Made). IsWorld (record {
        session = inside.session;
        file = inside.encoder.file;
        relays = take inside.mixers.len (relays ++ drop (length relays) inside.mixers.items);
        linked = inside.linked.items;
        pool = p;
        sink = inside.sink;
      })) (sym pool)
          (subst (λ (r : List MixerData). IsWorld (record {
            session = inside.session;
            file = inside.encoder.file;
            relays = r;
            linked = inside.linked.items;
            pool = inside.pool.items ++ made ∷ [];
            sink = inside.sink;
          })) (sym (whole-written inside.mixers.len inside.mixers.items relays inside.mixers.ok.0 mixes.others.count))
          (IsWorld-mixed world is relays made (c.args.node - 1) c.args.batch
          (omega (arith, c.in_ok-judge_mix.ensures.room, ap (λ (w : WorldData). length w.pool) c.self.view_is))
          (omega (arith, c.in_ok-judge_mix.ensures.relay, high)) mixes.others mixes.sent
          mixes.shape high)),
    )

pub returns-clause-ok : goal.returns-clause-ok
returns-clause-ok c state stands =
    let inside = c.self.inside in
    let world : WorldData = record {
      session = inside.session;
      file = inside.encoder.file;
      relays = inside.mixers.items;
      linked = inside.linked.items;
      pool = inside.pool.items;
      sink = inside.sink;
    } in
    let w : StandsFor state world = subst (StandsFor state) (sym c.self.view_is) stands in
    let packet : Packet = c.in-Some.packet in
    let relays : List MixerData = c.next_of.new.mixers in
    let mixes : Mixes (c.args.node - 1) c.args.batch packet relays inside.mixers.items =
    subst (Mixes (c.args.node - 1) c.args.batch packet relays) c.deref_mut.ensures.value (record {
      output = some-if c.in_ok-packet.field-0 packet _ c.in-Some.is c.in_ok-packet.ensures.output;
      shape = some-if c.in_ok-packet.field-0 packet _ c.in-Some.is c.in_ok-packet.ensures.shape;
      sent = some-match c.in_ok-packet.field-0 packet _ _ c.in-Some.is c.in_ok-packet.ensures.sent;
      others = c.next_of.ensures.others;
    }) in
    let high : c.args.node ≤ length inside.mixers.items =
    omega (arith, c.in_ok-judge_mix.ensures.within, ap (λ (w : WorldData). length w.relays) c.self.view_is) in
    let low : 1 ≤ c.args.node = omega (arith, c.in_ok-judge_mix.ensures.relay) in
    let sent : Packet = next_output state c.args.node c.args.batch in
    let same : packet ≡ sent =
    mixes.output ∙ is-next_output state world w c.args.node low high c.args.batch in
    let made : Made = record { maker = c.args.node; packet = packet } in
    let pool : c.add.new.pool.items ≡ inside.pool.items ++ record { maker = c.args.node; packet = sent } ∷ [] =
    c.in_ok-add.ensures.ok ∙ (ap (λ (p : List Made). p ++ made ∷ []) c.in_ok-reserve.ensures.items
    ∙ ap (λ (p : Packet). inside.pool.items ++ record { maker = c.args.node; packet = p } ∷ []) same) in (
      with_made state c.args.node sent,
      (
        c.in_ok-judge_mix.ensures.passes state stands,
        subst (λ (p : List Made). StandsFor (with_made state c.args.node sent) (record {
          session = inside.session;
          file = inside.encoder.file;
          relays = take inside.mixers.len (relays ++ drop (length relays) inside.mixers.items);
          linked = inside.linked.items;
          pool = p;
          sink = inside.sink;
        })) (sym pool)
            (subst (λ (r : List MixerData). StandsFor (with_made state c.args.node sent) (record {
              session = inside.session;
              file = inside.encoder.file;
              relays = r;
              linked = inside.linked.items;
              pool = inside.pool.items ++ record { maker = c.args.node; packet = sent } ∷ [];
              sink = inside.sink;
            })) (sym (whole-written inside.mixers.len inside.mixers.items relays inside.mixers.ok.0 mixes.others.count))
            (StandsFor-made state world w c.args.node sent relays mixes.others.count
            (λ place within. elim (cases_eq place (c.args.node - 1)) [
              | inl e ↦
                  subst (λ n. HasMade c.args.node sent n (relay_at inside.mixers.items n) (relay_at relays n)) (sym e)
                  (HasMade-own c.args.node sent (c.args.node - 1) c.args.batch
                  (relay_at inside.mixers.items (c.args.node - 1)) (relay_at relays (c.args.node - 1))
                  (omega (arith, low)) (batch-next state c.args.node c.args.batch) mixes.sent)
              | inr differ ↦
                  HasMade-other c.args.node sent place (relay_at inside.mixers.items place) (relay_at relays place)
                  (λ e. differ (omega (arith, e))) (mixes.others.others place differ)
            ]))),
      ),
    )
