-- What the basis at a place keeps, by the number of its batch.
use Rattle.std.proofs.Common.{◌≡◌, ◌<◌, ◌∙◌, length, ap, sym, subst, arith, List}
use Rattle.std.proofs.lemmas.List.{length-map}
use Rattle.bats_batch.specs.Held.{HeldData, batch_at, kept_at}
use Rattle.bats_batch.specs.steps.Slots.{batch_in, batches_in, AreOf}
use Rattle.bats_batch.specs.declared.slot.Slot.{Slot}
use Rattle.bats_batch.proofs.Offers.{basis-of_place}
use Rattle.bats_batch.proofs.held.Held.basis_at.Goals as goal

pub returns-clause-own : goal.returns-clause-own
returns-clause-own c =
    let slots : List Slot = c.self.inside.slots.items in
    let within : c.args.i < length slots =
    omega (arith, c.requires, ap (λ (h : HeldData). length h.batches) c.self.view_is, length-map slots batch_in) in
    let there = basis-of_place c.self.inside.session slots c.args.i c.index.result.now c.self.invariant.are within in
    subst (λ (h : HeldData). AreOf (batch_at h.batches c.args.i).number c.index.result.now.basis.kept) c.self.view_is
    (subst (λ (slot : Slot). AreOf (batch_at (batches_in slots) c.args.i).number slot.basis.kept) (sym c.index.ensures) there.0)

pub returns-clause-at : goal.returns-clause-at
returns-clause-at c =
    let slots : List Slot = c.self.inside.slots.items in
    let within : c.args.i < length slots =
    omega (arith, c.requires, ap (λ (h : HeldData). length h.batches) c.self.view_is, length-map slots batch_in) in
    let there = basis-of_place c.self.inside.session slots c.args.i c.index.result.now c.self.invariant.are within in
    subst (λ (h : HeldData). kept_at h.batches (batch_at h.batches c.args.i).number ≡ c.index.result.now.basis.kept) c.self.view_is
    (there.1 ∙ ap (λ (slot : Slot). slot.basis.kept) (sym c.index.ensures))
