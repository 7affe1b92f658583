use Rattle.std.proofs.Common.{ℕ, ◌≡◌, ◌<◌, ◌∙◌, ap, sym, subst, List, length}
use Rattle.bats_model.specs.Session.{SessionData}
use Rattle.bats_model.specs.Batch.{batch_of}
use Rattle.bats_model.specs.Agreement.{Agrees}
use Rattle.bats_model.proofs.UnitVectors.{length-unit_vector}
use Rattle.bats_encoder.proofs.Agreements.{length-coded_payload}
use Rattle.bats_checks.proofs.TruePackets.{HasTaken-more}
use Rattle.bats_checks.proofs.in_memory.send_packet.Goals as goal

pub coded-requires-clause-of_session : goal.coded-requires-clause-of_session
coded-requires-clause-of_session g c =
    c.requires.of_session ∙ ap (λ (s : SessionData). batch_of s c.args.batch.now.number) (sym c.requires.encoder)

pub coded-requires-clause-column : goal.coded-requires-clause-column
coded-requires-clause-column g c =
    subst (λ (s : SessionData). c.args.column < s.m) (sym c.requires.encoder) c.requires.column

pub offer-requires-clause-coefs : goal.offer-requires-clause-coefs
offer-requires-clause-coefs g c =
    ap (λ (v : List ℕ). length v) c.in_ok-packet.ensures.coefs ∙ (length-unit_vector c.args.encoder.now.session.m c.args.column
    ∙ ap (λ (s : SessionData). s.m) (c.requires.encoder ∙ sym c.requires.relay))

pub offer-requires-clause-payload : goal.offer-requires-clause-payload
offer-requires-clause-payload g c =
    ap (λ (v : List ℕ). length v) c.in_ok-packet.ensures.payload
    ∙ (length-coded_payload c.args.encoder.now.session c.args.encoder.now.file c.args.batch.now c.args.column
    ∙ ap (λ (s : SessionData). s.t) (c.requires.encoder ∙ sym c.requires.relay))

pub returns-clause-taken : goal.returns-clause-taken
returns-clause-taken g c =
    let agrees : Agrees c.args.relay.now.held.session c.args.encoder.now.file c.in_ok-packet.packet =
    subst (λ (s : SessionData). Agrees s c.args.encoder.now.file c.in_ok-packet.packet) (c.requires.encoder ∙ sym c.requires.relay)
    c.in_ok-packet.ensures.agrees in
    HasTaken-more c.args.encoder.now.file c.args.relay.now.held c.offer.new.self.held c.in_ok-packet.packet
    c.in_ok-offer.ensures.offers.session c.in_ok-offer.ensures.offers.stands agrees c.requires.taken
