use Rattle.std.proofs.Common.{slice_set, true}
use Rattle.bats_peel.proofs.Marking.{part-set}
use Rattle.bats_peel.proofs.Testing.{tested-grown}
use Rattle.bats_peel.proofs.order.inactivate.Goals as goal

pub grow-requires-clause-tested : goal.grow-requires-clause-tested
grow-requires-clause-tested g c =
    tested-grown c.args.locals.now c.args.progress.now.known.items (slice_set c.args.progress.now.known.items c.args.symbol true)
    c.args.progress.now.tested.items (part-set c.args.progress.now.known.items c.args.symbol) c.requires.tested
