use Rattle.std.proofs.Common.{◌≡◌, take}
use Rattle.gf_core.specs.Combinations.{combination}
use Rattle.bats_cert.proofs.sums.add_rows.Given as goal

abbrev pub invariant-rows : goal.invariant-rows
invariant-rows l = l.sum ≡ combination l.rows.cols (take l.i l.factors) (take l.i l.rows.rows)
