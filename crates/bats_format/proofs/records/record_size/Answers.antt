use Rattle.std.proofs.Common.{refl, arith}
use Rattle.bats_format.proofs.Reading.{length-record_of}
use Rattle.bats_format.proofs.records.record_size.Goals as goal

pub returns-in-Header : goal.returns-in-Header
returns-in-Header c = record {
  size = length-record_of c.args.session.now c.requires.0 c.args.item.now c.m.ensures.within c.requires.1 32 (λ at e. refl) (λ at packet e. cc);
  within = omega arith;
}

pub returns-in-Packet : goal.returns-in-Packet
returns-in-Packet c = record {
  size = length-record_of c.args.session.now c.requires.0 c.args.item.now c.m.ensures.within c.requires.1 _ (λ at e. cc) (λ at packet e. omega arith);
  within = omega (arith, c.m.ensures.within.m_high, c.m.ensures.within.t_high);
}
