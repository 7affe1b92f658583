use Rattle.std.proofs.Common.{◌≡◌}
use Rattle.std.specs.Prelude.{All}
use Rattle.bats_checks.proofs.tests.bases.offers.Given as goal

abbrev pub invariant-loop-offered : goal.invariant-loop-offered
invariant-loop-offered g l = record {
  m : l.basis.m ≡ 2;
  t : l.basis.t ≡ 2;
  batch : All (λ other. other.batch ≡ 7) l.basis.kept;
}
