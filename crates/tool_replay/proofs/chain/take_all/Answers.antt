use Rattle.std.proofs.Common.{rules, ◌+◌, ◌∙◌, ◌≡◌, ◌++◌, ◌∷◌, [], ap, sym, subst, List, take, arith}
use Rattle.std.proofs.lemmas.List.{length-take-le, take_more}
use Rattle.bats_batch.specs.Held.{StandsFor}
use Rattle.bats_model.specs.Session.{SessionData}
use Rattle.bats_model.specs.declared.packet.Packet.{Packet}
use Rattle.tool_replay.proofs.TakenPackets.{has_room, work-more}
use Rattle.tool_replay.proofs.chain.take_all.Goals as goal

pub take-requires-clause-few : goal.take-requires-clause-few
take-requires-clause-few g c =
    let i = c.packets.packet-index in
    has_room (take i c.args.packets.now) c.packets.mixer.held c.packets.invariant.stands
    (omega (arith, c.requires.few, c.packets-test.true, length-take-le i c.args.packets.now (omega (arith, c.packets-test.true))))

pub packets-preserved : goal.packets-preserved
packets-preserved g c =
    let so_far = c.packets.invariant in
    let i = c.packets.packet-index in
    let next : take (i + 1) c.args.packets.now ≡ take i c.args.packets.now ++ c.packet-item.result ∷ [] = search (rules, take_more) in
    record {
      session = c.in_ok-take.ensures.session ∙ so_far.session;
      seed = c.in_ok-take.ensures.seed ∙ so_far.seed;
      sent = λ batch. c.in_ok-take.ensures.sent batch ∙ so_far.sent batch;
      stands = subst (λ (ps : List Packet). StandsFor ps c.take.new.mixer.held) (sym next)
          (c.in_ok-take.ensures.ok (take i c.args.packets.now) so_far.stands);
      steps = work-more c.args.counters.now.steps c.packets.counters.steps c.take.new.counters.steps c.args.mixer.now.held.session.m i so_far.steps
          (omega (arith, c.in_ok-take.ensures.steps, ap (λ (s : SessionData). s.m) so_far.session));
    }
