use Rattle.std.proofs.Common.{◌≡◌, take}
use Rattle.bats_peel.specs.steps.Search.{marked}
use Rattle.bats_peel.proofs.order.mark.Given as goal

abbrev pub invariant-loop-k : goal.invariant-loop-k
invariant-loop-k l = l.known.items ≡ marked l.fn.known.items (take l.k l.local.batch.contributors)
