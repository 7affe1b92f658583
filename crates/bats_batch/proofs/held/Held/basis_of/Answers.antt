-- What a look-up finds among the slots.
use Rattle.std.proofs.Common.{◌<◌, ◌∙◌, length, ap, sym, subst, List}
use Rattle.bats_batch.specs.Held.{HeldData, kept_at, basis_with}
use Rattle.bats_batch.specs.steps.Slots.{batches_in, StandsAt, BelongsAt}
use Rattle.bats_batch.specs.declared.slot.Slot.{Slot}
use Rattle.bats_batch.proofs.Offers.{none_kept, basis-at}
use Rattle.bats_batch.proofs.held.Held.basis_of.Goals as goal

pub returns-in-Ok : goal.returns-in-Ok
returns-in-Ok c =
    let stands = subst (λ (slots : List Slot). StandsAt (batches_in slots) c.args.batch c.in-Ok.place) c.deref.ensures.value c.in-Ok.ensures.held in
    let found = basis-at c.self.inside.session c.self.inside.slots.items c.args.batch c.in-Ok.place c.index.result.now c.self.invariant.are stands in (
      ap (λ (slot : Slot). slot.basis) c.index.ensures ∙ found.0 ∙ ap (λ (h : HeldData). basis_with h.session (kept_at h.batches c.args.batch)) c.self.view_is,
      subst (λ (slot : Slot). 0 < length slot.basis.kept) (sym c.index.ensures) found.1,
    )

pub returns-in-Err : goal.returns-in-Err
returns-in-Err c =
    ap (λ (h : HeldData). kept_at h.batches c.args.batch) (sym c.self.view_is)
    ∙ none_kept c.self.inside.slots.items c.args.batch c.in-Err.field-0
    (subst (λ (slots : List Slot). BelongsAt (batches_in slots) c.args.batch c.in-Err.field-0) c.deref.ensures.value c.in-Err.ensures.absent)
