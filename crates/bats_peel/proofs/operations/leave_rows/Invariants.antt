use Rattle.std.proofs.Common.{◌≡◌, ◌+◌, ◌++◌, take}
use Rattle.std.specs.Prelude.{map}
use Rattle.bats_peel.proofs.operations.leave_rows.Given as goal

abbrev pub invariant-rows : goal.invariant-rows
invariant-rows l = l.leftover ≡ l.fn.leftover ++ map (λ r. l.first + r) (take l.r-index l.rows)
