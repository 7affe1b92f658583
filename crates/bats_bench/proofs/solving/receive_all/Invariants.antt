use Rattle.std.proofs.Common.{◌≡◌}
use Rattle.bats_bench.proofs.solving.receive_all.Given as goal

abbrev pub invariant-loop-packet : goal.invariant-loop-packet
invariant-loop-packet g l = record {
  session : l.decoder.held.session ≡ l.session;
  m : l.m ≡ l.session.m;
  t : l.t ≡ l.session.t;
}
