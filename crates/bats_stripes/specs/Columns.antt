-- What is said of payload rows: that a plan was run on them, and that a row is zero.
use Rattle.std.specs.Prelude.{ℕ, ◌≡◌, ◌<◌, List, All, length}
use Rattle.gf_core.specs.Rows.{column_of}
use Rattle.gf_rows.specs.declared.operation.Op.{Op}
use Rattle.gf_rows.specs.Matrix.{Grid, matrix_entry}
use Rattle.gf_rows.specs.Plan.{plan_on_column}

-- the numbers of rows and columns stay, each row has a byte for each column, and each column becomes what the plan makes of it
pub record IsReplayed (plan : List Op) (before after : Grid) : Type 0 where
  pub cols : after.cols ≡ before.cols
  pub count : length after.rows ≡ length before.rows
  pub widths : All (λ row. length row ≡ before.cols) after.rows
  pub columns : (c : ℕ) → c < before.cols → column_of after.rows c ≡ plan_on_column plan (column_of before.rows c)

-- every byte of row r is 0
abbrev pub IsZeroRow : Grid → ℕ → Type 0
IsZeroRow payload r = (c : ℕ) → c < payload.cols → matrix_entry payload r c ≡ 0
