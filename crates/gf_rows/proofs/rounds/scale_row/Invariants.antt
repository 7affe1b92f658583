use Rattle.std.proofs.Common.{◌≡◌, ◌*◌, ◌++◌, take, drop}
use Rattle.gf_core.specs.Rows.{scaled_row}
use Rattle.gf_rows.proofs.rounds.scale_row.Given as goal

abbrev pub invariant-loop-k : goal.invariant-loop-k
invariant-loop-k l = l.row ≡ scaled_row l.fn.c (take (l.k * 16) l.fn.row) ++ drop (l.k * 16) l.fn.row
