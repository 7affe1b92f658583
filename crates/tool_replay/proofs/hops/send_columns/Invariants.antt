use Rattle.std.proofs.Common.{map}
use Rattle.std.specs.List.{range_with_len}
use Rattle.bats_world.specs.World.{source_packet}
use Rattle.tool_replay.specs.steps.Hops.{Sends}
use Rattle.tool_replay.proofs.hops.send_columns.Given as goal

abbrev pub invariant-columns : goal.invariant-columns
invariant-columns l =
    Sends (map (source_packet l.encoder.session l.encoder.file l.batch.number) (range_with_len 0 l.column)) l.fn.hop l.hop
