-- The batch's slot has the new basis, and the others are as before.
use Rattle.gf_rows.proofs.SpendsLemmas.{Spends-weaken}
use Rattle.bats_batch.specs.steps.Slots.{slots_cost}
use Rattle.bats_batch.proofs.Offers.{OffersTo-set, slot_cost}
use Rattle.bats_batch.proofs.slot.offer_at.Goals as goal

pub returns-clause-offers : goal.returns-clause-offers
returns-clause-offers g c =
    let facts = c.offer_within.ensures in
    OffersTo-set c.args.session.now c.args.slots.now c.args.place c.index-slots-place.result c.offer_within.new.basis c.args.packet.now
    c.requires.slots c.requires.place c.args.has_room c.offer_within.result facts.m facts.t facts.taken facts.kept facts.room facts.full facts.err

pub returns-clause-coef_steps : goal.returns-clause-coef_steps
returns-clause-coef_steps g c =
    Spends-weaken (slots_cost c.args.session.now c.args.slots.now c.args.packet.now) c.offer_within.ensures.coef_steps
    (slot_cost c.args.session.now c.args.slots.now c.args.place c.index-slots-place.result c.offer_within.new.basis c.args.packet.now
    c.requires.slots c.requires.place)

pub returns-clause-steps : goal.returns-clause-steps
returns-clause-steps g c =
    Spends-weaken (slots_cost c.args.session.now c.args.slots.now c.args.packet.now) c.offer_within.ensures.steps
    (slot_cost c.args.session.now c.args.slots.now c.args.place c.index-slots-place.result c.offer_within.new.basis c.args.packet.now
    c.requires.slots c.requires.place)
