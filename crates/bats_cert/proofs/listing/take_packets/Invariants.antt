use Rattle.std.proofs.Common.{◌≡◌, ◌+◌, length}
use Rattle.bats_cert.specs.steps.Taken.{HasPackets}
use Rattle.bats_cert.proofs.listing.take_packets.Given as goal

abbrev pub invariant-packets : goal.invariant-packets
invariant-packets g l = record {
  size : length l.written.items ≡ 5 + l.session.m + l.session.t;
  read : HasPackets (g.S.Source.state l.initial.source) (g.S.Source.state l.source) l.session l.i l.packets;
}
