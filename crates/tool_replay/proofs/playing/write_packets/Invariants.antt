use Rattle.std.proofs.Common.{None}
use Rattle.tool_run.specs.Writes.{Writes}
use Rattle.tool_replay.proofs.PoolWritten.{first_records}
use Rattle.tool_replay.proofs.playing.write_packets.Given as goal

abbrev pub invariant-packets : goal.invariant-packets
invariant-packets g l = Writes (g.O.Sink.state l.fn.output) (g.O.Sink.state l.output) (first_records l.world.pool l.i) None
