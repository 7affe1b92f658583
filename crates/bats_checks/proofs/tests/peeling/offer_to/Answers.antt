use Rattle.bats_checks.proofs.tests.peeling.offer_to.Goals as goal

pub returns-clause-stands : goal.returns-clause-stands
returns-clause-stands g c packets stands = (_, c.in_ok-offer.ensures.offers.stands packets stands)
