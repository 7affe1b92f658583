use Rattle.bats_relay.proofs.relay.Relay.next_of.Goals as goal

pub returns-clause-agrees : goal.returns-clause-agrees
returns-clause-agrees g c = rw (← c.self.view_is) c.next_of.ensures.agrees
