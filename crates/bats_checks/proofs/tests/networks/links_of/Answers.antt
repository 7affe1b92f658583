use Rattle.std.proofs.Common.{sym, subst, All}
use Rattle.std.proofs.lemmas.List.Elements.{All-nil}
use Rattle.bats_world.specs.World.{IsLink}
use Rattle.bats_checks.proofs.tests.networks.links_of.Goals as goal

pub pairs-init : goal.pairs-init
pairs-init c = subst (All (IsLink c.args.relays)) (sym c.new-links.ensures) (All-nil (IsLink c.args.relays))
