-- The rows of a matrix as equations: a row's byte in a column is the sum of the row's entries, each times the value of
-- its unknown. There is an unknown for each column of the matrix.
use Rattle.std.specs.Prelude.{ℕ, ◌≡◌, ◌<◌, List, All, slice_index}
use Rattle.gf_core.specs.Field.{gf_add, gf_mul, gf_sum}
use Rattle.gf_rows.specs.Matrix.{Grid, matrix_entry}

-- the value of each of this many unknowns is a byte
abbrev pub AreValues : ℕ → (ℕ → ℕ) → Type 0
AreValues count values = (j : ℕ) → j < count → values j < 256

-- the sum of row r's entries, each times the value of its unknown
abbrev pub row_value : Grid → (ℕ → ℕ) → ℕ → ℕ
row_value m values r = gf_sum m.cols (λ j. gf_mul (matrix_entry m r j) (values j))

-- the values solve these rows: each row's byte is that sum
pub record Solves (m : Grid) (column : List ℕ) (rows : List ℕ) (values : ℕ → ℕ) : Type 0 where
  pub each : All (λ r. slice_index column r ≡ row_value m values r) rows

-- row r's byte and that sum, added: what is left of the byte
abbrev pub row_result : Grid → List ℕ → (ℕ → ℕ) → ℕ → ℕ
row_result m column values r = gf_add (slice_index column r) (row_value m values r)
