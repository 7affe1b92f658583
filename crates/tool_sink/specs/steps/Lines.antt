-- The lines of held batches, as they are made.
use Rattle.std.specs.Prelude.{ℕ, List, ◌++◌, length, flat_map, codes}
use Rattle.std.specs.Fmt.{decimal}
use Rattle.std.specs.List.{range_with_len}
use Rattle.bats_batch.specs.Held.{HeldBatch, batch_at}
use Rattle.bats_model.specs.Session.{SessionData}
use Rattle.bats_model.specs.Batch.{batch_of, degree_of}

-- the line of a batch with this number, of this degree, of which so many packets are kept
abbrev pub numbers_line : ℕ → ℕ → ℕ → List ℕ
numbers_line number degree kept =
    codes "batch " ++ (decimal number ++ (codes " degree " ++ (decimal degree ++ (codes " kept " ++ (decimal kept ++ codes "\n")))))

-- the line of a held batch
abbrev pub line_of : SessionData → HeldBatch → List ℕ
line_of session batch = numbers_line batch.number (degree_of (batch_of session batch.number)) (length batch.kept)

-- that of the one at a place
unfoldable pub line_at : SessionData → List HeldBatch → ℕ → List ℕ
line_at session batches place = line_of session (batch_at batches place)

-- those of all held batches
abbrev pub held_lines : SessionData → List HeldBatch → List ℕ
held_lines session batches = flat_map (line_at session batches) (range_with_len 0 (length batches))
