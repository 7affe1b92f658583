use Rattle.std.proofs.Common.{◌≡◌, take}
use Rattle.bats_batch.specs.Held.{row_count}
use Rattle.bats_peel.specs.steps.Local.{HaveLocals}
use Rattle.bats_peel.proofs.local.locals.Given as goal

abbrev pub invariant-batches : goal.invariant-batches
invariant-batches l = record {
  first : l.first ≡ row_count (take l.i l.held.batches);
  locals : HaveLocals l.session l.held.batches l.i l.locals.items;
}
