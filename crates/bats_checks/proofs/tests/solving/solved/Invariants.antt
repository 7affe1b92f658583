use Rattle.std.proofs.Common.{◌≡◌}
use Rattle.bats_checks.proofs.tests.solving.solved.Given as goal

abbrev pub invariant-loop-i : goal.invariant-loop-i
invariant-loop-i g l = l.decoder.held.session ≡ l.session
