use Rattle.std.proofs.Common.{◌≡◌}
use Rattle.bats_checks.proofs.tests.holding.keeps_batch.Given as goal

abbrev pub invariant-loop-place : goal.invariant-loop-place
invariant-loop-place g l = l.held.session ≡ l.fn.held.session
