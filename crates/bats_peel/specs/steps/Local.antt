-- Held batches over their own contributors, and what holds of their matrices while they are written.
use Rattle.std.specs.Prelude.{ℕ, ◌≡◌, ◌≢◌, ◌<◌, List, length, take, slice_index, slice_index_or}
use Rattle.gf_core.specs.Field.{gf_mul, gf_sum}
use Rattle.gf_rows.specs.Matrix.{Grid, IsMatrix, matrix_row, matrix_entry}
use Rattle.gf_rows.specs.Equations.{row_value}
use Rattle.bats_model.specs.Session.{SessionData}
use Rattle.bats_model.specs.Batch.{BatchData, IsBatch, batch_of, degree_of, entry_of}
use Rattle.bats_model.specs.Peeling.{local_value}
use Rattle.bats_model.specs.declared.packet.Packet.{Packet}
use Rattle.bats_batch.specs.Held.{HeldBatch, batch_at, row_count}
use Rattle.bats_peel.specs.declared.local.Local.{Local}

-- the local of these kept packets of the batch with this number, whose payload rows begin at `first`: row i makes of any
-- bytes as values of the contributors what packet i makes of them
pub record IsLocalOf (session : SessionData) (number first : ℕ) (kept : List Packet) (local : Local) : Type 0 where
  pub first_is : local.first ≡ first
  pub batch_is : local.batch ≡ batch_of session number
  pub is_batch : IsBatch local.batch
  pub matrix : IsMatrix local.matrix
  pub cols : local.matrix.cols ≡ degree_of local.batch
  pub rows : length local.matrix.rows ≡ length kept
  pub values : (x : ℕ → ℕ) → ((k : ℕ) → k < degree_of local.batch → x k < 256) → (i : ℕ) (d : Packet) → i < length kept
      → row_value local.matrix x i ≡ local_value session number (slice_index_or kept i d).coefs x

-- this is the local of the held batch at place i
abbrev pub IsLocalAt : SessionData → List HeldBatch → ℕ → Local → Type 0
IsLocalAt session batches i = IsLocalOf session (batch_at batches i).number (row_count (take i batches)) (batch_at batches i).kept

-- one for each held batch, payload rows following one another
pub record AreLocals (session : SessionData) (batches : List HeldBatch) (locals : List Local) : Type 0 where
  pub size : length locals ≡ length batches
  pub each : (i : ℕ) (d : Local) → i < length batches
      → IsLocalOf session (batch_at batches i).number (row_count (take i batches)) (batch_at batches i).kept (slice_index_or locals i d)

-- ---- while they are written

-- coefficients times row k of the batch's generator: what contributor k's value is multiplied by
abbrev pub local_factor : BatchData → List ℕ → ℕ → ℕ
local_factor batch coefs k = gf_sum batch.columns (λ j. gf_mul (slice_index coefs j) (entry_of batch k j))

-- the first `count` entries of row r are these, and the other rows are as before
pub record WritesEntries (entry : ℕ → ℕ) (count r : ℕ) (before after : Grid) : Type 0 where
  pub matrix : IsMatrix after
  pub cols : after.cols ≡ before.cols
  pub rows : length after.rows ≡ length before.rows
  pub entries : (j : ℕ) → j < count → matrix_entry after r j ≡ entry j
  pub others : (i : ℕ) → i ≢ r → matrix_row after i ≡ matrix_row before i

-- the first `count` of these packets have their factors written, a row each
pub record HasFactors (batch : BatchData) (kept : List Packet) (count : ℕ) (m : Grid) : Type 0 where
  pub matrix : IsMatrix m
  pub cols : m.cols ≡ degree_of batch
  pub rows : length m.rows ≡ length kept
  pub entries : (i k : ℕ) (d : Packet) → i < count → k < degree_of batch
      → matrix_entry m i k ≡ local_factor batch (slice_index_or kept i d).coefs k

-- the matrix of a batch's kept packets
pub record IsLocalMatrix (batch : BatchData) (kept : List Packet) (m : Grid) : Type 0 where
  pub is_batch : IsBatch batch
  pub factors : HasFactors batch kept (length kept) m

-- the first `count` held batches have their locals
pub record HaveLocals (session : SessionData) (batches : List HeldBatch) (count : ℕ) (locals : List Local) : Type 0 where
  pub size : length locals ≡ count
  pub each : (i : ℕ) (d : Local) → i < count → IsLocalAt session batches i (slice_index_or locals i d)
