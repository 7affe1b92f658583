use Rattle.std.proofs.Common.{◌≡◌, ◌*◌, take}
use Rattle.gf_core.specs.Rows.{row_sum}
use Rattle.gf_rows.proofs.lanes.add_row.Given as goal

abbrev pub invariant-loop-k : goal.invariant-loop-k
invariant-loop-k l = l.dst ≡ row_sum l.fn.dst (take (l.k * 32) l.src)
