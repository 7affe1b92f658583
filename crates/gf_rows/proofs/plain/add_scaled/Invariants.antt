use Rattle.std.proofs.Common.{◌≡◌, take}
use Rattle.gf_core.specs.Rows.{add_scaled_row}
use Rattle.gf_rows.proofs.plain.add_scaled.Given as goal

abbrev pub invariant-loop-i : goal.invariant-loop-i
invariant-loop-i l = l.dst ≡ add_scaled_row l.fn.dst l.fn.c (take l.i l.src)
