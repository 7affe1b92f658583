use Rattle.std.proofs.Common.{◌-◌}
use Rattle.bats_io.specs.Streams.{InputState}
use Rattle.bats_format.specs.Reader.{OpensAt}
use Rattle.bats_model.specs.PacketFile.{most_records}
use Rattle.tool_records.specs.steps.Walked.{HoldsItem}
use Rattle.tool_records.proofs.walking.walk_opened.Given as goal

abbrev pub invariant-records : goal.invariant-records
invariant-records g l = (start : InputState) → OpensAt start (g.S.Source.state l.fn.input) l.fn.reader
    → HoldsItem (g.T.Taker.gives l.fn.taker l.fn.tools l.taker l.tools)
    (record { input = start; output = g.O.Sink.state l.fn.output })
    (record { input = g.S.Source.state l.input; output = g.O.Sink.state l.output })
    l.reader l.item

abbrev pub decreases-records : goal.decreases-records
decreases-records g l = most_records - l.reader.records
