use Rattle.bats_world.proofs.Honest.{AreHonest-reached, received-shapes, received-agree}
use Rattle.bats_world.proofs.laws.honest_packets_agree.Goals as goal

pub returns-clause-pool : goal.returns-clause-pool
returns-clause-pool c state f reached k d within = ((AreHonest-reached state f reached).pool k d within).agrees

pub returns-clause-received : goal.returns-clause-received
returns-clause-received c state node f reached = received-agree state (AreHonest-reached state f reached) node

pub returns-clause-shapes : goal.returns-clause-shapes
returns-clause-shapes c state node f reached = received-shapes state (AreHonest-reached state f reached) node
