-- One operation on rows: its rule, the rows that it names, and what it does to a column and to whole rows.
use Rattle.std.specs.Prelude.{ℕ, ◌≢◌, ◌<◌, List, [], slice_index, slice_index_or, slice_set}
use Rattle.gf_core.specs.Field.{gf_add, gf_mul}
use Rattle.gf_rows.specs.declared.operation.Op.{Op}
use Rattle.gf_rows.specs.declared.operation.Op.TheVariants.{AddScaled, Scale}
use Rattle.gf_core.specs.Rows.{add_scaled_row, scaled_row}

-- the rows of a sum differ, and the factor of a scaling isn't 0, so that each operation can be undone
abbrev pub IsRowOperation : Op → Type 0
IsRowOperation (AddScaled dst src factor) = dst ≢ src
IsRowOperation (Scale row factor) = factor ≢ 0

-- the factor is a byte
abbrev pub HasByteFactor : Op → Type 0
HasByteFactor (AddScaled dst src factor) = factor < 256
HasByteFactor (Scale row factor) = factor < 256

-- the operation's rows are below this number
abbrev pub FitsRows : ℕ → Op → Type 0
FitsRows rows (AddScaled dst src factor) = (dst < rows) × (src < rows)
FitsRows rows (Scale row factor) = row < rows

-- what the operation does to a column, which has one byte for each row
abbrev pub op_on_column : List ℕ → Op → List ℕ
op_on_column column (AddScaled dst src factor) =
    slice_set column dst (gf_add (slice_index column dst) (gf_mul factor (slice_index column src)))
op_on_column column (Scale row factor) = slice_set column row (gf_mul factor (slice_index column row))

-- what the operation does to whole rows
abbrev pub op_on_rows : List (List ℕ) → Op → List (List ℕ)
op_on_rows rows (AddScaled dst src factor) =
    slice_set rows dst (add_scaled_row (slice_index_or rows dst []) factor (slice_index_or rows src []))
op_on_rows rows (Scale row factor) = slice_set rows row (scaled_row factor (slice_index_or rows row []))
