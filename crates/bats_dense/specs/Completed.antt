-- Which values of the unknowns the reduced form leaves: those of the free columns are any, and make the others.
use Rattle.std.specs.Prelude.{ℕ, ◌≡◌, ◌<◌, List, All, length, slice_index}
use Rattle.gf_core.specs.Field.{gf_add, gf_mul, gf_sum}
use Rattle.gf_rows.specs.Matrix.{matrix_entry}
use Rattle.bats_dense.specs.declared.dense.Dense.{Dense}

-- the sum of row r's entries at the free columns, each times the value of its unknown
abbrev pub free_value : Dense → (ℕ → ℕ) → ℕ → ℕ
free_value dense values r =
    gf_sum (length dense.free)
    (λ k. gf_mul (matrix_entry dense.matrix r (slice_index dense.free k)) (values (slice_index dense.free k)))

-- the column is 0 at the zero rows, and the value at each pivot column is the column's byte at its row and that sum, added
pub record IsCompleted (dense : Dense) (column : List ℕ) (values : ℕ → ℕ) : Type 0 where
  pub zero_rows : All (λ r. slice_index column r ≡ 0) dense.zero_rows
  pub pivots : (i : ℕ) → i < length dense.pivot_columns
      → values (slice_index dense.pivot_columns i)
      ≡ gf_add (slice_index column (slice_index dense.pivot_rows i)) (free_value dense values (slice_index dense.pivot_rows i))
