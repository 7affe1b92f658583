use Rattle.std.proofs.Common.{◌≡◌}
use Rattle.bats_checks.proofs.tests.relaying.mixes.Given as goal

abbrev pub invariant-loop-batch : goal.invariant-loop-batch
invariant-loop-batch g l = l.mixer.held.session ≡ l.fn.session

abbrev pub invariant-loop-batch-2 : goal.invariant-loop-batch-2
invariant-loop-batch-2 g l = l.mixer.held.session ≡ l.fn.session
