-- The closure gives a slot's number.
use Rattle.std.proofs.Common.{rules, []}
use Rattle.std.proofs.lemmas.List.Sorted.{answers_always}
use Rattle.bats_batch.specs.declared.slot.Slot.{Slot}
use Rattle.bats_batch.proofs.Places.{searched}
use Rattle.bats_batch.proofs.slot.place_of.Goals as goal

abbrev no_slot : Slot
no_slot = record { number = 0; basis = record { m = 0; t = 0; kept = [] } }

pub returns-clause-held : goal.returns-clause-held
returns-clause-held c =
    let facts = c.binary_search_by_key.ensures in
    let by_number = facts.position (λ slot. slot.number) (answers_always _ _ _ (λ f a r g called. search rules)) in
    (searched c.args.slots.now c.args.number no_slot c.requires.rising c.binary_search_by_key.result facts.bound by_number).held

pub returns-clause-absent : goal.returns-clause-absent
returns-clause-absent c =
    let facts = c.binary_search_by_key.ensures in
    let by_number = facts.position (λ slot. slot.number) (answers_always _ _ _ (λ f a r g called. search rules)) in
    (searched c.args.slots.now c.args.number no_slot c.requires.rising c.binary_search_by_key.result facts.bound by_number).absent
