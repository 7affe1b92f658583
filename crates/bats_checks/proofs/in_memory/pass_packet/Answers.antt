use Rattle.std.proofs.Common.{ℕ, ◌≡◌, ◌∙◌, sym, subst, List}
use Rattle.bats_model.specs.Session.{SessionData}
use Rattle.bats_model.specs.Agreement.{Agrees, AgreesWithAll}
use Rattle.bats_model.specs.declared.packet.Packet.{Packet}
use Rattle.bats_batch.specs.Held.{kept_at}
use Rattle.bats_batch.specs.Held.{StandsFor as HoldsFor}
use Rattle.bats_world.proofs.RelayChanges.{some-if}
use Rattle.bats_checks.proofs.TruePackets.{HasReceived-more, kept-agrees}
use Rattle.bats_checks.proofs.in_memory.pass_packet.Goals as goal

pub returns-clause-received : goal.returns-clause-received
returns-clause-received g c file taken received =
    let packet : Packet = c.in-Some.packet in
    let tells : (packets : List Packet) (one : List ℕ) → HoldsFor packets c.args.relay.now.held
    → AgreesWithAll c.args.relay.now.held.session (kept_at c.args.relay.now.held.batches c.args.number) one
    → Agrees c.args.relay.now.held.session one packet =
    some-if c.in_ok-packet.field-0 packet _ c.in-Some.is c.in_ok-packet.ensures.agrees in
    let agrees : Agrees c.args.receiver.now.held.session file packet =
    subst (λ (s : SessionData). Agrees s file packet) (c.requires.relay ∙ sym c.requires.receiver)
    (tells taken.packets file taken.stands (kept-agrees file c.args.relay.now.held c.args.number taken)) in
    HasReceived-more file c.args.receiver.now c.offer.new.self packet c.in_ok-offer.ensures.collects.session c.in_ok-offer.ensures.collects.stands agrees received
