-- What one column's row operations do.
use Rattle.std.specs.Prelude.{ℕ, ◌≡◌, ◌≢◌, ◌<◌, List, [], ◌∷◌, All, Contains, length, slice_index}
use Rattle.gf_rows.specs.declared.operation.Op.{Op}
use Rattle.gf_rows.specs.Matrix.{Grid, matrix_row, matrix_entry}
use Rattle.gf_rows.specs.Performed.{Performed}
use Rattle.bats_dense.specs.Kept.{KeepsOutside}

-- multiples of the pivot row made these rows 0 in the column. Where a row was 0 there it still is, and a column where
-- the pivot row is 0 keeps its entries
pub record Clears (pivot column : ℕ) (rows : List ℕ) (old new : Grid) (before after : List Op) : Type 0 where
  pub performed : Performed (pivot ∷ []) old new before after
  pub cleared : All (λ r. matrix_entry new r column ≡ 0) rows
  pub kept : (r : ℕ) → matrix_entry old r column ≡ 0 → matrix_entry new r column ≡ 0
  pub outside : (r : ℕ) → ¬ Contains rows r → matrix_row new r ≡ matrix_row old r
  pub same : (r j : ℕ) → j < old.cols → matrix_entry old pivot j ≡ 0 → matrix_entry new r j ≡ matrix_entry old r j

-- a multiple of the row is 1 in the column. Where it was 0 it still is
pub record Normalizes (row column : ℕ) (old new : Grid) (before after : List Op) : Type 0 where
  pub performed : Performed (row ∷ []) old new before after
  pub one : matrix_entry new row column ≡ 1
  pub outside : (r : ℕ) → r ≢ row → matrix_row new r ≡ matrix_row old r
  pub same : (r j : ℕ) → matrix_entry old row j ≡ 0 → matrix_entry new r j ≡ matrix_entry old r j

-- the equation at this place is 1 in the column, and all other rows at hand are 0 there. A column where that equation
-- was 0 keeps its entries
pub record ClearsColumn (eqs others : List ℕ) (place column : ℕ) (old new : Grid) (before after : List Op) : Type 0 where
  pub performed : Performed eqs old new before after
  pub one : matrix_entry new (slice_index eqs place) column ≡ 1
  pub eqs_zero : (k : ℕ) → k < length eqs → k ≢ place → matrix_entry new (slice_index eqs k) column ≡ 0
  pub others_zero : All (λ r. matrix_entry new r column ≡ 0) others
  pub same : (r j : ℕ) → j < old.cols → matrix_entry old (slice_index eqs place) j ≡ 0 → matrix_entry new r j ≡ matrix_entry old r j
  pub outside : KeepsOutside eqs others old new
