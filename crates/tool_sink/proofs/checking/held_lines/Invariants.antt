use Rattle.std.proofs.Common.{◌≡◌}
use Rattle.std.specs.Prelude.{string_bytes}
use Rattle.tool_sink.proofs.CheckLines.{lines_before}
use Rattle.tool_sink.proofs.checking.held_lines.Given as goal

abbrev pub invariant-batches : goal.invariant-batches
invariant-batches l = string_bytes l.lines ≡ lines_before l.session l.held.batches l.place
