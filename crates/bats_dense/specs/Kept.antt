-- What a reduction keeps, for every column of bytes that the rows stand beside, and all values of the unknowns.
use Rattle.std.specs.Prelude.{ℕ, ◌≡◌, ◌↔◌, List, Contains, length}
use Rattle.gf_core.specs.Bytes.{AreBytes}
use Rattle.gf_rows.specs.declared.operation.Op.{Op}
use Rattle.gf_rows.specs.Matrix.{Grid, matrix_row}
use Rattle.gf_rows.specs.Plan.{plan_on_column}
use Rattle.gf_rows.specs.Equations.{AreValues, Solves, row_result}

-- rows that are neither equations nor others stay as they are
abbrev pub KeepsOutside : List ℕ → List ℕ → Grid → Grid → Type 0
KeepsOutside eqs others old new = (r : ℕ) → ¬ Contains eqs r → ¬ Contains others r → matrix_row new r ≡ matrix_row old r

-- Values solve the equations before, with the plan before run on the column, exactly where they solve those after, with
-- the plan after run on it. Where they do, each row gives the same byte before and after.
pub record KeepsSolutions (eqs : List ℕ) (old new : Grid) (before after : List Op) : Type 0 where
  pub solutions : (column : List ℕ) (values : ℕ → ℕ) → length column ≡ length old.rows → AreBytes column → AreValues old.cols values
      → Solves old (plan_on_column before column) eqs values ↔ Solves new (plan_on_column after column) eqs values
  pub results : (column : List ℕ) (values : ℕ → ℕ) (r : ℕ) → length column ≡ length old.rows → AreValues old.cols values
      → Solves old (plan_on_column before column) eqs values
      → row_result new (plan_on_column after column) values r ≡ row_result old (plan_on_column before column) values r
