use Rattle.bats_relay.specs.steps.Mixing.{IsMixed}
use Rattle.bats_relay.proofs.mixing.mix.Given as goal

abbrev pub invariant-loop-i : goal.invariant-loop-i
invariant-loop-i l = IsMixed l.basis.m l.basis.t l.basis.kept l.factors l.i l.coefs l.payload
