use Rattle.std.proofs.Common.{◌≡◌, take}
use Rattle.bats_world.specs.steps.Relays.{new_relays}
use Rattle.bats_world.proofs.relays.mixers_of.Given as goal

abbrev pub invariant-seeds : goal.invariant-seeds
invariant-seeds l = l.mixers.items ≡ new_relays l.session (take l.seed-index l.seeds)
