-- Row operations that led from one matrix to another, and stand at the end of a plan.
use Rattle.std.specs.Prelude.{ℕ, ◌≡◌, List, ◌++◌, All, Contains, length}
use Rattle.gf_rows.specs.declared.operation.Op.{Op}
use Rattle.gf_rows.specs.declared.operation.Op.TheVariants.{AddScaled, Scale}
use Rattle.gf_rows.specs.Matrix.{Grid}
use Rattle.gf_rows.specs.Operation.{FitsRows}
use Rattle.gf_rows.specs.Plan.{IsPlan, plan_on_rows}

-- the operation adds one of these rows to a row, or scales one of them
abbrev pub TakesFrom : List ℕ → Op → Type 0
TakesFrom sources (AddScaled dst src factor) = Contains sources src
TakesFrom sources (Scale row factor) = Contains sources row

-- operations that take from these rows alone led from the old matrix to the new one, and from the plan before to the
-- plan after
pub record Performed (sources : List ℕ) (old new : Grid) (before after : List Op) : Type 0 where
  pub ops : List Op
  pub plan : after ≡ before ++ ops
  pub rows : new.rows ≡ plan_on_rows ops old.rows
  pub cols : new.cols ≡ old.cols
  pub takes : All (TakesFrom sources) ops
  pub is : IsPlan ops
  pub fits : All (FitsRows (length old.rows)) ops
