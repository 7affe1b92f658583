-- Where a byte of payload rows lies in their buffer, and the rows that a buffer holds.
use Rattle.std.specs.Prelude.{ℕ, ◌+◌, ◌*◌, ◌/◌, ◌%◌, List, map, slice_index}
use Rattle.std.specs.List.{range_with_len}

-- the place of byte c of row r: stripes of `width` columns lie one after another, and in a stripe its rows, each of
-- `stride` bytes
abbrev pub byte_place : ℕ → ℕ → ℕ → ℕ → ℕ → ℕ
byte_place rows width stride r c = ((c / width) * rows + r) * stride + c % width

-- row r
unfoldable pub striped_row : ℕ → ℕ → ℕ → ℕ → List ℕ → ℕ → List ℕ
striped_row rows cols width stride bytes r = map (λ c. slice_index bytes (byte_place rows width stride r c)) (range_with_len 0 cols)

-- the rows, from the first to the last
unfoldable pub striped_rows : ℕ → ℕ → ℕ → ℕ → List ℕ → List (List ℕ)
striped_rows rows cols width stride bytes = map (striped_row rows cols width stride bytes) (range_with_len 0 rows)
