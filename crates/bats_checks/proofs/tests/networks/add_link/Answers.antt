use Rattle.std.proofs.Common.{sym, subst, All}
use Rattle.std.proofs.lemmas.List.Elements.{All-push}
use Rattle.bats_world.specs.World.{IsLink}
use Rattle.bats_checks.proofs.tests.networks.add_link.Goals as goal

pub returns : goal.returns
returns c =
    subst (All (IsLink c.args.relays)) (sym c.in_ok-push.ensures.ok)
    (All-push (IsLink c.args.relays) c.args.links.now c.args.link c.requires.before (c.fits.ensures c.if-not-fits.false))
