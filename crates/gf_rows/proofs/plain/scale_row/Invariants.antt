use Rattle.std.proofs.Common.{◌≡◌, ◌++◌, take, drop}
use Rattle.gf_core.specs.Rows.{scaled_row}
use Rattle.gf_rows.proofs.plain.scale_row.Given as goal

abbrev pub invariant-loop-byte : goal.invariant-loop-byte
invariant-loop-byte l = l.row ≡ scaled_row l.fn.c (take l.byte-index l.fn.row) ++ drop l.byte-index l.fn.row
