use Rattle.std.proofs.Common.{flat_map, None}
use Rattle.std.specs.List.{range_with_len}
use Rattle.tool_source.specs.Source.{batch_records}
use Rattle.tool_run.specs.Writes.{Writes}
use Rattle.tool_source.proofs.sending.write_batches.Given as goal

abbrev pub invariant-loop-i : goal.invariant-loop-i
invariant-loop-i g l =
    Writes (g.O.Sink.state l.fn.output) (g.O.Sink.state l.output)
    (flat_map (batch_records l.encoder.session l.encoder.file) (range_with_len l.first l.i)) None
