use Rattle.std.proofs.Common.{◌≡◌}
use Rattle.bats_checks.proofs.tests.holding.holds.Given as goal

abbrev pub invariant-loop-batch : goal.invariant-loop-batch
invariant-loop-batch g l = l.held.session ≡ l.fn.session
