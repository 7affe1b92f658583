use Rattle.std.proofs.Common.{sym, subst}
use Rattle.bats_batch.specs.Offers.{Offers}
use Rattle.bats_relay.specs.Mixer.{MixerData}
use Rattle.bats_world.specs.Standing.{relay_at}
use Rattle.bats_world.proofs.RelayChanges.{relay-changed, relay-read}
use Rattle.bats_world.proofs.relays.offer.Goals as goal

pub returns-clause-offers : goal.returns-clause-offers
returns-clause-offers g c =
    subst (λ (r : MixerData). Offers (relay_at c.args.mixers.now c.args.place).held r.held c.args.packet.now c.offer.result)
    (sym (relay-changed c.args.mixers.now c.args.place c.offer.new.self c.requires.within))
    (subst (λ (r : MixerData). Offers r.held c.offer.new.self.held c.args.packet.now c.offer.result)
    (relay-read c.args.mixers.now c.args.place c.index-mixers-place.result c.requires.within)
    c.offer.ensures.offers)
