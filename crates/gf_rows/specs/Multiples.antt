-- Sums of multiples of several rows.
use Rattle.std.specs.Prelude.{ℕ, List}
use Rattle.gf_core.specs.Rows.{row_sum, scaled_row}

-- the sum of four multiples, which is as long as the first row
unfoldable pub sum_of_four : ℕ → List ℕ → ℕ → List ℕ → ℕ → List ℕ → ℕ → List ℕ → List ℕ
sum_of_four ca a cb b cc c cd d =
    row_sum (row_sum (row_sum (scaled_row ca a) (scaled_row cb b)) (scaled_row cc c)) (scaled_row cd d)
