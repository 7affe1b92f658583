use Rattle.std.proofs.Common.{◌≡◌, ◌*◌, length, take}
use Rattle.gf_rows.specs.Matrix.{rows_of}
use Rattle.gf_rows.specs.Plan.{plan_on_rows}
use Rattle.bats_stripes.proofs.stripe.run.Given as goal

abbrev pub invariant-operations : goal.invariant-operations
invariant-operations l =
    (length l.stripe ≡ l.rows * l.stride) × (rows_of l.rows l.stride l.stripe ≡ plan_on_rows (take l.i l.plan) (rows_of l.rows l.stride l.fn.stripe))
