use Rattle.std.proofs.Common.{◌*◌}
use Rattle.bats_relay.specs.steps.Mixing.{IsMixed}
use Rattle.bats_relay.proofs.mixing.add_groups.Given as goal

abbrev pub invariant-loop-group : goal.invariant-loop-group
invariant-loop-group l = IsMixed l.basis.m l.basis.t l.basis.kept l.factors (l.group * 4) l.coefs l.payload
