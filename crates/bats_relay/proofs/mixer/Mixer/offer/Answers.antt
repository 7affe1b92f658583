use Rattle.bats_relay.proofs.mixer.Mixer.offer.Goals as goal

pub returns-clause-offers : goal.returns-clause-offers
returns-clause-offers g c = rw (← c.self.view_is) c.offer.ensures.offers
