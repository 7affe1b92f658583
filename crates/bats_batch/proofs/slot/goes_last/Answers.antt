-- The last slot's number is below the batch's.
use Rattle.std.proofs.Common.{◌<◌, arith}
use Rattle.std.proofs.lemmas.Bool.Decides.{nat_tests}
use Rattle.bats_batch.proofs.Places.{BelongsAt-end}
use Rattle.bats_batch.proofs.slot.goes_last.Goals as goal

pub returns-in-Some : goal.returns-in-Some
returns-in-Some c less =
    let item = c.in-Some.ensures.item in
    let below : c.in-Some.slot.now.number < c.args.number = grind (arith, nat_tests) in
    BelongsAt-end c.args.slots.now c.args.number c.in-Some.slot.now c.requires.rising item.3.0 item.1 below
