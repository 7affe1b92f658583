use Rattle.std.specs.Prelude.{All}
use Rattle.bats_world.specs.World.{IsLink}
use Rattle.bats_checks.proofs.tests.networks.links_of.Given as goal

abbrev pub invariant-pairs : goal.invariant-pairs
invariant-pairs l = All (IsLink l.relays) l.links
