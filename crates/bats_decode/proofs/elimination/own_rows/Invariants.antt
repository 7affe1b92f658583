use Rattle.bats_decode.specs.steps.Left.{AreOwnRows}
use Rattle.bats_decode.proofs.elimination.own_rows.Given as goal

abbrev pub invariant-symbols : goal.invariant-symbols
invariant-symbols l = AreOwnRows l.s l.left l.rows
