-- Rows of one width, and triangular rows: those that elimination leaves.
use Rattle.std.specs.Prelude.{ℕ, ◌≡◌, ◌<◌, List, [], All, length, slice_index, slice_index_or}
use Rattle.gf_core.specs.Bytes.{AreBytes}

-- each of the rows has this width, and bytes
pub record AreRows (width : ℕ) (rows : List (List ℕ)) : Type 0 where
  pub widths : All (λ row. length row ≡ width) rows
  pub bytes : All AreBytes rows

-- the row is 0 at each pivot
abbrev pub IsZeroAt : List ℕ → List ℕ → Type 0
IsZeroAt pivots row = All (λ pivot. slice_index row pivot ≡ 0) pivots

-- each row is 1 at its pivot, and the later rows are 0 there
pub record AreTriangular (pivots : List ℕ) (rows : List (List ℕ)) : Type 0 where
  pub sizes : length pivots ≡ length rows
  pub ones : (i : ℕ) → i < length rows → slice_index (slice_index_or rows i []) (slice_index pivots i) ≡ 1
  pub later : (i j : ℕ) → i < j → j < length rows → slice_index (slice_index_or rows j []) (slice_index pivots i) ≡ 0
