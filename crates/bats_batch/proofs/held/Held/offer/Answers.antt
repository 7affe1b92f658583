-- What is held is offered the packet as its slots are.
use Rattle.std.proofs.Common.{◌∙◌, ap, sym, subst, arith, Ok, Result}
use Rattle.bats_model.specs.declared.taken.Taken.{Taken}
use Rattle.bats_batch.specs.Held.{HeldData}
use Rattle.bats_batch.specs.Offers.{Offers}
use Rattle.bats_batch.specs.steps.Slots.{batches_in}
use Rattle.bats_batch.specs.declared.held.HeldEnd.{HeldEnd}
use Rattle.bats_batch.proofs.Offers.{Offers-of}
use Rattle.bats_batch.proofs.held.Held.offer.Goals as goal

pub returns-clause-offers : goal.returns-clause-offers
returns-clause-offers g c =
    let after : HeldData = record { session = c.self.inside.session; batches = batches_in c.offer_to.new.slots.items } in
    let result : Result Taken HeldEnd = Ok c.in_ok-taken.taken in
    subst (λ (before : HeldData). Offers before after c.args.packet.now result) c.self.view_is
    (Offers-of c.self.inside.session c.self.inside.slots.items c.offer_to.new.slots.items c.self.inside.rows c.args.packet.now result
    c.self.invariant
    (record {
      batch = omega arith;
      coefs = c.requires.coefs ∙ ap (λ (h : HeldData). h.session.m) (sym c.self.view_is);
      payload = c.requires.payload ∙ ap (λ (h : HeldData). h.session.t) (sym c.self.view_is);
      coef_bytes = c.as_slice-coefs.ensures.bytes;
      payload_bytes = c.as_slice-payload.ensures.bytes;
    })
    c.in_ok-taken.ensures.offers)
