use Rattle.std.proofs.Common.{◌≡◌, ◌+◌}
use Rattle.bats_stripes.proofs.payload.count.Given as goal

abbrev pub invariant-steps : goal.invariant-steps
invariant-steps g l = l.steps ≡ l.fn.steps + l.i
