-- Stripes of a buffer: that they hold all columns, and that a plan was run on each.
use Rattle.std.specs.Prelude.{ℕ, ◌≡◌, ◌<◌, ◌≤◌, ◌+◌, ◌*◌, List, length}
use Rattle.std.specs.Fork.{slice_chunk}
use Rattle.gf_rows.specs.declared.operation.Op.{Op}
use Rattle.gf_rows.specs.Matrix.{rows_of}
use Rattle.gf_rows.specs.Plan.{plan_on_rows}

-- the rows of each stripe became what the plan makes of them
pub record AreRun (plan : List Op) (rows stride : ℕ) (before after : List ℕ) : Type 0 where
  pub size : length after ≡ length before
  pub each : (k : ℕ) → k * (rows * stride) < length before → rows_of rows stride (slice_chunk after (rows * stride) k)
      ≡ plan_on_rows plan (rows_of rows stride (slice_chunk before (rows * stride) k))

-- stripes of `width` columns, in which a row takes `stride` bytes, hold all columns, each at least one, and fill a buffer of
-- so many bytes
pub record IsStriped (rows cols width stride stripes size : ℕ) : Type 0 where
  pub some : 0 < width
  pub fits : width ≤ stride
  pub covers : cols ≤ stripes * width
  pub full : stripes * width < cols + width
  pub bytes : size ≡ stripes * (rows * stride)
