use Rattle.std.proofs.Common.{◌≡◌, ◌*◌, take}
use Rattle.gf_core.specs.Rows.{row_sum}
use Rattle.gf_rows.specs.Multiples.{sum_of_four}
use Rattle.gf_rows.proofs.lanes.add_four.Given as goal

abbrev pub invariant-loop-k : goal.invariant-loop-k
invariant-loop-k l =
    l.dst ≡ row_sum l.fn.dst (take (l.k * 32) (sum_of_four l.fn.a.factor l.fn.a.row.now l.fn.b.factor l.fn.b.row.now l.fn.c.factor l.fn.c.row.now l.fn.d.factor l.fn.d.row.now))
