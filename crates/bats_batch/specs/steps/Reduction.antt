-- What elimination does to one row.
use Rattle.std.specs.Prelude.{ℕ, ◌≡◌, ◌<◌, ◌≢◌, List, length, slice_index}
use Rattle.gf_core.specs.Bytes.{AreBytes}
use Rattle.gf_core.specs.Rows.{row_sum, scaled_row}
use Rattle.gf_core.specs.Combinations.{IsInSpan}
use Rattle.gf_core.specs.Triangular.{IsZeroAt}

-- the new row is the old one with a combination of the rows added, and is 0 at each of these pivots
pub record Reduces (width : ℕ) (rows : List (List ℕ)) (pivots : List ℕ) (old new : List ℕ) : Type 0 where
  pub size : length new ≡ width
  pub bytes : AreBytes new
  pub added : IsInSpan width rows (row_sum new old)
  pub cleared : IsZeroAt pivots new

-- the new row is the multiple of the old one that is 1 at the pivot
pub record IsNormalized (pivot : ℕ) (old new : List ℕ) : Type 0 where
  pub factor : ℕ
  pub byte : factor < 256
  pub multiple : new ≡ scaled_row factor old
  pub back : old ≡ scaled_row (slice_index old pivot) new
  pub one : slice_index new pivot ≡ 1

-- the first byte of the row that isn't 0 stands here
pub record IsLeading (row : List ℕ) (place : ℕ) : Type 0 where
  pub within : place < length row
  pub stands : slice_index row place ≢ 0
  pub before : (k : ℕ) → k < place → slice_index row k ≡ 0
