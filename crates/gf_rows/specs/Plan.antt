-- Plans: lists of operations on rows, and what they do to a column and to whole rows.
use Rattle.std.specs.Prelude.{ℕ, List, All, fold}
use Rattle.gf_rows.specs.declared.operation.Op.{Op}
use Rattle.gf_rows.specs.Operation.{IsRowOperation, HasByteFactor, op_on_column, op_on_rows}

-- each operation keeps its rule
pub record IsPlan (ops : List Op) : Type 0 where
  pub rule : All IsRowOperation ops
  pub bytes : All HasByteFactor ops

-- the column after the operations, one after another
unfoldable pub plan_on_column : List Op → List ℕ → List ℕ
plan_on_column ops column = fold op_on_column column ops

-- the rows after the operations, one after another
unfoldable pub plan_on_rows : List Op → List (List ℕ) → List (List ℕ)
plan_on_rows ops rows = fold op_on_rows rows ops
