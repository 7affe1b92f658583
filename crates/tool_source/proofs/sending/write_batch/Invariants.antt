use Rattle.std.proofs.Common.{flat_map, None}
use Rattle.std.specs.List.{range_with_len}
use Rattle.tool_source.specs.Source.{coded_record}
use Rattle.tool_run.specs.Writes.{Writes}
use Rattle.tool_source.proofs.sending.write_batch.Given as goal

abbrev pub invariant-loop-j : goal.invariant-loop-j
invariant-loop-j g l =
    Writes (g.O.Sink.state l.fn.output) (g.O.Sink.state l.output)
    (flat_map (coded_record l.encoder.session l.encoder.file l.batch.number) (range_with_len 0 l.j)) None
