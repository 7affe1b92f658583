use Rattle.std.proofs.Common.{◌≡◌, ◌+◌, ◌-◌, ◌≤◌, vec_len}
use Rattle.bats_io.specs.Streams.{IsRead}
use Rattle.tool_run.proofs.reading.read_up_to.Given as goal

abbrev pub invariant-loop-file : goal.invariant-loop-file
invariant-loop-file g l = record {
  read : IsRead (g.S.Source.state l.fn.input).left (g.S.Source.state l.input).left l.file.items;
  within : vec_len l.file ≤ l.most + 1;
  no_fault : (g.S.Source.state l.input).faults ≡ (g.S.Source.state l.fn.input).faults;
}

abbrev pub decreases-loop-file : goal.decreases-loop-file
decreases-loop-file g l = l.most + 1 - vec_len l.file
