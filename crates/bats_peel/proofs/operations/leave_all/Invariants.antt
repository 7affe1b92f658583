use Rattle.std.proofs.Common.{◌≡◌, ◌+◌, ◌++◌}
use Rattle.std.specs.Prelude.{map}
use Rattle.std.specs.List.{range_with_len}
use Rattle.bats_peel.proofs.operations.leave_all.Given as goal

abbrev pub invariant-rows : goal.invariant-rows
invariant-rows l = l.leftover ≡ l.fn.leftover ++ map (λ r. l.first + r) (range_with_len 0 l.r)
