use Rattle.std.proofs.Common.{◌≡◌, ◌∙◌, ap, sym, subst, refl, arith, List, ◌∷◌, ◌++◌, [], length}
use Rattle.bats_model.specs.Session.{SessionData}
use Rattle.bats_model.specs.PacketFile.{HasShape}
use Rattle.bats_model.specs.declared.packet.Packet.{Packet}
use Rattle.bats_world.specs.World.{source_packet, with_made}
use Rattle.bats_world.specs.Standing.{WorldData, StandsFor, relay_at}
use Rattle.bats_world.specs.steps.Inside.{IsWorld}
use Rattle.bats_world.specs.declared.made.Made.{Made}
use Rattle.bats_world.proofs.Honest.{HasShape-source}
use Rattle.bats_world.proofs.SourcePackets.{batch-own, is-source_packet}
use Rattle.bats_world.proofs.StateSteps.{StandsFor-made, HasMade-other}
use Rattle.bats_world.proofs.WorldSteps.{IsWorld-sent}
use Rattle.bats_world.proofs.world.World.send.Goals as goal

pub coded-requires-clause-of_session : goal.coded-requires-clause-of_session
coded-requires-clause-of_session c =
    batch-own c.self.inside.session c.self.inside.encoder.session c.args.number c.in_ok-batch.batch c.self.invariant.0
    c.in_ok-batch.ensures.value

pub invariant_of-self-2 : goal.invariant_of-self-2
invariant_of-self-2 c =
    let inside = c.self.inside in
    let world : WorldData = record {
      session = inside.session;
      file = inside.encoder.file;
      relays = inside.mixers.items;
      linked = inside.linked.items;
      pool = inside.pool.items;
      sink = inside.sink;
    } in
    let is : IsWorld world = c.self.invariant.1 in
    let packet : Packet = c.in_ok-packet.packet in
    let same : packet ≡ source_packet inside.session inside.encoder.file c.args.number c.args.column =
    is-source_packet inside.session inside.encoder.session inside.encoder.file c.args.number c.args.column c.in_ok-batch.batch packet
    c.self.invariant.0 c.in_ok-batch.ensures.value c.in_ok-packet.ensures.batch c.in_ok-packet.ensures.coefs c.in_ok-packet.ensures.payload in (
      c.self.invariant.0,
      subst (λ (p : List Made). IsWorld (record {
        session = inside.session;
        file = inside.encoder.file;
        relays = inside.mixers.items;
        linked = inside.linked.items;
        pool = p;
        sink = inside.sink;
      })) (sym c.in_ok-add.ensures.ok)
          (IsWorld-sent world is (record { maker = 0; packet = packet })
          (omega (arith, c.in_ok-judge_send.ensures.room, ap (λ (w : WorldData). length w.pool) c.self.view_is))
          (subst (HasShape inside.session) (sym same)
          (HasShape-source inside.session inside.encoder.file c.args.number c.args.column (omega (arith, c.ranges.number.fits)) is.file))
          (omega arith)),
    )

pub returns-clause-ok : goal.returns-clause-ok
returns-clause-ok c state stands =
    let inside = c.self.inside in
    let world : WorldData = record {
      session = inside.session;
      file = inside.encoder.file;
      relays = inside.mixers.items;
      linked = inside.linked.items;
      pool = inside.pool.items;
      sink = inside.sink;
    } in
    let w : StandsFor state world = subst (StandsFor state) (sym c.self.view_is) stands in
    let packet : Packet = c.in_ok-packet.packet in
    let sent : Packet = source_packet state.session state.file c.args.number c.args.column in
    let same : packet ≡ sent =
    is-source_packet inside.session inside.encoder.session inside.encoder.file c.args.number c.args.column c.in_ok-batch.batch packet
    c.self.invariant.0 c.in_ok-batch.ensures.value c.in_ok-packet.ensures.batch c.in_ok-packet.ensures.coefs c.in_ok-packet.ensures.payload
    ∙ (ap (λ (s : SessionData). source_packet s inside.encoder.file c.args.number c.args.column) w.session
    ∙ ap (λ file. source_packet state.session file c.args.number c.args.column) w.file) in (
      with_made state 0 sent,
      (
        c.in_ok-judge_send.ensures.passes state c.args.number stands,
        subst (λ (p : List Made). StandsFor (with_made state 0 sent) (record {
          session = inside.session;
          file = inside.encoder.file;
          relays = inside.mixers.items;
          linked = inside.linked.items;
          pool = p;
          sink = inside.sink;
        })) (sym (c.in_ok-add.ensures.ok
            ∙ ap (λ (p : Packet). inside.pool.items ++ record { maker = 0; packet = p } ∷ []) same))
            (StandsFor-made state world w 0 sent inside.mixers.items refl
            (λ place within. HasMade-other 0 sent place (relay_at inside.mixers.items place) (relay_at inside.mixers.items place)
            (λ e. omega (arith, e)) refl)),
      ),
    )
