use Rattle.std.proofs.Common.{◌≡◌, ◌-◌, ◌<◌, ◌≤◌, false, length, take}
use Rattle.bats_io.specs.Sink.{Appends}
use Rattle.bats_io.proofs.whole.write_whole.Given as goal

abbrev pub invariant-loop-done : goal.invariant-loop-done
invariant-loop-done g l = record {
  within : l.done ≤ length l.bytes;
  appended : Appends (g.K.Sink.state l.initial.sink).written (g.K.Sink.state l.sink).written (take l.done l.bytes);
  no_fault : (g.K.Sink.state l.sink).faults ≡ (g.K.Sink.state l.initial.sink).faults;
  unflushed : 0 < l.done → (g.K.Sink.state l.sink).flushed ≡ false;
  not_begun : l.done ≡ 0 → (g.K.Sink.state l.sink).flushed ≡ (g.K.Sink.state l.initial.sink).flushed;
}

abbrev pub decreases-loop-done : goal.decreases-loop-done
decreases-loop-done g l = length l.bytes - l.done
