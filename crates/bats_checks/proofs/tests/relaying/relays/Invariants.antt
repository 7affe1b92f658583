use Rattle.std.proofs.Common.{◌≡◌}
use Rattle.bats_checks.proofs.tests.relaying.relays.Given as goal

abbrev pub invariant-loop-coefs : goal.invariant-loop-coefs
invariant-loop-coefs g l = l.relay.rule ≡ l.fn.rule
