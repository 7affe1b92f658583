use Rattle.bats_checks.proofs.tests.peeling.peeled_of.Goals as goal

pub loop-i-preserved : goal.loop-i-preserved
loop-i-preserved g c = record {
  session = c.offer_to.ensures.session;
  stands = c.in_ok-offer_to.ensures.stands c.loop-i.invariant.stands.0 c.loop-i.invariant.stands.1;
}

pub returns : goal.returns
returns g c =
    let (packets, stands) = c.loop-i.invariant.stands in
    (c.in_ok-peel.ensures.peeled packets stands).placed.places
