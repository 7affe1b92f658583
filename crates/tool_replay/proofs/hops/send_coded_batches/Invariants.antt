use Rattle.std.proofs.Common.{flat_map}
use Rattle.std.specs.List.{range_with_len}
use Rattle.tool_replay.specs.steps.Hops.{Sends, coded_batch}
use Rattle.tool_replay.proofs.hops.send_coded_batches.Given as goal

abbrev pub invariant-batches : goal.invariant-batches
invariant-batches l = Sends (flat_map (coded_batch l.encoder.session l.encoder.file) (range_with_len 0 l.number)) l.fn.hop l.hop
