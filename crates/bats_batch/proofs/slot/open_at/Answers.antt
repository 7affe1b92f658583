-- The batch is held from now on where the packet is kept, and the others are as before.
use Rattle.std.proofs.Common.{◌∙◌, ap, sym, subst, List, []}
use Rattle.bats_model.specs.declared.packet.Packet.{Packet}
use Rattle.bats_model.specs.declared.taken.Taken.TheVariants.{Kept}
use Rattle.bats_batch.specs.Basis.{BasisData, IsTaken, kept_with}
use Rattle.bats_batch.specs.steps.Slots.{Takes}
use Rattle.bats_batch.specs.declared.slot.Slot.{Slot}
use Rattle.bats_batch.proofs.Offers.{Takes-none, Takes-insert, none_kept, OffersTo-exit}
use Rattle.bats_batch.proofs.slot.open_at.Goals as goal

pub returns-in_err-taken-clause-offers : goal.returns-in_err-taken-clause-offers
returns-in_err-taken-clause-offers g c =
    let packet = c.args.packet.now in
    let kept = ap (λ (basis : BasisData). basis.kept) c.new-basis.ensures.value in
    let none = none_kept c.args.slots.now.items packet.batch c.args.place c.requires.place in
    OffersTo-exit c.args.session.now c.args.slots.now.items c.args.has_room packet c.from_residual.result c.in_err-taken.field-0.0
    c.from_residual.ensures.1
    (λ same.
    let both = c.in_err-taken.ensures.full same in
    (both.0, subst (λ (ps : List Packet). IsTaken ps packet Kept) (kept ∙ sym none) both.1))

pub returns-in_default-clause-offers : goal.returns-in_default-clause-offers
returns-in_default-clause-offers g c =
    let packet = c.args.packet.now in
    let kept = ap (λ (basis : BasisData). basis.kept) c.new-basis.ensures.value in
    record {
      takes = Takes-none c.args.session.now c.args.slots.now.items c.args.place packet c.in_ok-taken.taken c.requires.slots c.requires.place
          (subst (λ (ps : List Packet). IsTaken ps packet c.in_ok-taken.taken) kept c.in_ok-taken.ensures.taken) c.in_default.not-Kept;
      room = c.in_ok-taken.ensures.room;
      full = tt;
      same = tt;
    }

pub returns-in_ok-add_at-in-Kept-clause-offers : goal.returns-in_ok-add_at-in-Kept-clause-offers
returns-in_ok-add_at-in-Kept-clause-offers g c =
    let packet = c.args.packet.now in
    let facts = c.in_ok-taken.ensures in
    let empty = c.new-basis.ensures.value in
    let kept = ap (λ (basis : BasisData). basis.kept) empty in
    record {
      takes = subst (λ (after : List Slot). Takes c.args.session.now c.args.slots.now.items after packet c.in_ok-taken.taken)
          (sym c.in_ok-add_at-in-Kept.ensures.ok)
          (Takes-insert c.args.session.now c.args.slots.now.items c.args.place packet c.in_ok-taken.taken c.requires.slots c.requires.place
          (subst (λ (ps : List Packet). IsTaken ps packet c.in_ok-taken.taken) kept facts.taken) c.offer_within.new.basis
          (facts.m ∙ ap (λ (basis : BasisData). basis.m) empty ∙ c.m.ensures.value)
          (facts.t ∙ ap (λ (basis : BasisData). basis.t) empty ∙ c.t.ensures.value)
          (facts.kept ∙ ap (λ (ps : List Packet). kept_with ps packet c.in_ok-taken.taken) kept ∙ ap (kept_with [] packet) c.in-Kept.is)
          c.in-Kept.is);
      room = facts.room;
      full = tt;
      same = tt;
    }
