use Rattle.std.proofs.Common.{true, rules, ◌≡◌, ◌∙◌, ap, sym, subst, refl, length, Ok}
use Rattle.bats_model.specs.declared.packet.Packet.{Packet}
use Rattle.bats_decode.specs.Decoder.{DecoderData, Collects}
use Rattle.bats_decode.proofs.Offering.{HasReceived-more, StandsFor-contradicting, StandsFor-agreeing, Collects-taken, Collects-exit}
use Rattle.bats_decode.proofs.decoder.Decoder.offer.Goals as goal

pub returns-in_err-taken-clause-collects : goal.returns-in_err-taken-clause-collects
returns-in_err-taken-clause-collects g c =
    let inside = c.self.inside in
    let old : DecoderData = record { held = inside.held; contradicted = inside.contradicted; packets = inside.packets } in
    let new : DecoderData = record old { held = c.offer.new.self } in
    subst (λ (before : DecoderData). Collects before new c.args.packet.now c.from_residual.result) c.self.view_is
    (Collects-exit old c.offer.new.self c.args.packet.now c.from_residual.result c.in_err-taken.field-0.0 c.from_residual.ensures.1
    c.in_err-taken.ensures.offers)

pub returns-then-eq-clause-collects : goal.returns-then-eq-clause-collects
returns-then-eq-clause-collects g c =
    let inside = c.self.inside in
    let packet : Packet = c.args.packet.now in
    let offers = c.in_ok-taken.ensures.offers in
    let old : DecoderData = record { held = inside.held; contradicted = inside.contradicted; packets = inside.packets } in
    let new : DecoderData = record { held = c.offer.new.self; contradicted = true; packets = c.saturating_add-self-inside.result } in
    let coefs : length packet.coefs ≡ old.held.session.m = c.requires.coefs ∙ ap (λ (d : DecoderData). d.held.session.m) (sym c.self.view_is) in
    let payload : length packet.payload ≡ old.held.session.t = c.requires.payload ∙ ap (λ (d : DecoderData). d.held.session.t) (sym c.self.view_is) in
    subst (λ (before : DecoderData). Collects before new packet (Ok tt)) c.self.view_is
    (Collects-taken old new packet c.in_ok-taken.taken c.self.invariant.1 coefs payload offers
    (λ packets stands. StandsFor-contradicting packets packet old new c.in_ok-taken.taken (offers.stands packets stands.holds)
    refl (search rules) offers.taken c.saturating_add-self-inside.ensures stands))

pub returns-else-eq-clause-collects : goal.returns-else-eq-clause-collects
returns-else-eq-clause-collects g c =
    let inside = c.self.inside in
    let packet : Packet = c.args.packet.now in
    let offers = c.in_ok-taken.ensures.offers in
    let old : DecoderData = record { held = inside.held; contradicted = inside.contradicted; packets = inside.packets } in
    let new : DecoderData = record { held = c.offer.new.self; contradicted = inside.contradicted; packets = c.saturating_add-self-inside.result } in
    let coefs : length packet.coefs ≡ old.held.session.m = c.requires.coefs ∙ ap (λ (d : DecoderData). d.held.session.m) (sym c.self.view_is) in
    let payload : length packet.payload ≡ old.held.session.t = c.requires.payload ∙ ap (λ (d : DecoderData). d.held.session.t) (sym c.self.view_is) in
    subst (λ (before : DecoderData). Collects before new packet (Ok tt)) c.self.view_is
    (Collects-taken old new packet c.in_ok-taken.taken c.self.invariant.1 coefs payload offers
    (λ packets stands. StandsFor-agreeing packets packet old new c.in_ok-taken.taken (offers.stands packets stands.holds)
    refl (search rules) offers.taken c.saturating_add-self-inside.ensures stands))

pub invariant_of-self-then-eq : goal.invariant_of-self-then-eq
invariant_of-self-then-eq g c = (
  c.in_ok-taken.ensures.offers.session ∙ c.self.invariant.0,
  HasReceived-more c.self.inside.held c.offer.new.self c.args.packet.now c.in_ok-taken.ensures.offers.stands c.self.invariant.1,
)

pub invariant_of-self-else-eq : goal.invariant_of-self-else-eq
invariant_of-self-else-eq g c = (
  c.in_ok-taken.ensures.offers.session ∙ c.self.invariant.0,
  HasReceived-more c.self.inside.held c.offer.new.self c.args.packet.now c.in_ok-taken.ensures.offers.stands c.self.invariant.1,
)
