use Rattle.std.proofs.Common.{◌≡◌, ◌-◌, ◌≤◌, length, take}
use Rattle.bats_io.specs.Streams.{IsRead}
use Rattle.bats_cert.proofs.filling.fill.Given as goal

abbrev pub invariant-loop-count : goal.invariant-loop-count
invariant-loop-count g l = record {
  within : l.count ≤ length l.buffer;
  read : IsRead (g.S.Source.state l.initial.source).left (g.S.Source.state l.source).left (take l.count l.buffer);
  no_fault : (g.S.Source.state l.source).faults ≡ (g.S.Source.state l.initial.source).faults;
}

abbrev pub decreases-loop-count : goal.decreases-loop-count
decreases-loop-count g l = length l.initial.buffer - l.count
