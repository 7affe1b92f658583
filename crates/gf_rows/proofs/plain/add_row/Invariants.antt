use Rattle.std.proofs.Common.{◌≡◌, take}
use Rattle.gf_core.specs.Rows.{row_sum}
use Rattle.gf_rows.proofs.plain.add_row.Given as goal

abbrev pub invariant-loop-i : goal.invariant-loop-i
invariant-loop-i l = l.dst ≡ row_sum l.fn.dst (take l.i l.src)
