-- Matrices of bytes over the field, seen as their rows.
use Rattle.std.specs.Prelude.{ℕ, ◌≡◌, ◌+◌, ◌*◌, List, [], ◌++◌, All, length, map, take, drop, slice_index, slice_index_or, slice_set}
use Rattle.std.specs.List.{range_with_len}
use Rattle.gf_core.specs.Bytes.{AreBytes}

-- the number of columns, which stands also where there is no row, and the rows from the first to the last
pub record Grid : Type 0 where
  pub cols : ℕ
  pub rows : List (List ℕ)

-- row r
abbrev pub matrix_row : Grid → ℕ → List ℕ
matrix_row m r = slice_index_or m.rows r []

-- the entry of row r and column c
abbrev pub matrix_entry : Grid → ℕ → ℕ → ℕ
matrix_entry m r c = slice_index (matrix_row m r) c

-- the matrix with another row r
abbrev pub with_matrix_row : Grid → ℕ → List ℕ → Grid
with_matrix_row m r row = record m { rows = slice_set m.rows r row }

-- each row has as many entries as there are columns, and these are bytes
pub record IsMatrix (m : Grid) : Type 0 where
  pub widths : All (λ row. length row ≡ m.cols) m.rows
  pub bytes : All AreBytes m.rows

-- the rows of a buffer that holds them one after another
unfoldable pub rows_of : ℕ → ℕ → List ℕ → List (List ℕ)
rows_of count width bytes = map (λ r. take width (drop (r * width) bytes)) (range_with_len 0 count)

-- the buffer with another part from a place on
unfoldable pub with_part : List ℕ → ℕ → List ℕ → List ℕ
with_part bytes at part = take at bytes ++ (part ++ drop (at + length part) bytes)
