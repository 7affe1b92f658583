-- Kept packets after elimination: which values of the symbols they leave.
use Rattle.std.specs.Prelude.{ℕ, suc, ◌≡◌, ◌<◌, List, All, length, slice_index, slice_index_or}
use Rattle.gf_core.specs.Bytes.{AreBytes}
use Rattle.gf_core.specs.Field.{gf_add, gf_mul, gf_sum}
use Rattle.gf_rows.specs.Matrix.{IsMatrix, matrix_entry}
use Rattle.gf_rows.specs.Equations.{AreValues}
use Rattle.gf_rows.specs.Operation.{FitsRows}
use Rattle.gf_rows.specs.Plan.{IsPlan, plan_on_column}
use Rattle.bats_model.specs.Session.{SessionData, IsPadded, symbols_of}
use Rattle.bats_model.specs.Values.{Satisfies}
use Rattle.bats_model.specs.declared.packet.Packet.{Packet}
use Rattle.bats_decode.specs.declared.elimination.Origin.{Origin}
use Rattle.bats_decode.specs.declared.elimination.Origin.TheVariants.{Row, Free}
use Rattle.bats_decode.specs.declared.elimination.Elimination.{Elimination}

-- the origin of symbol s
abbrev pub origin_of : Elimination → ℕ → Origin
origin_of e s = slice_index_or e.origins.items s (Row 0)

-- each of the first n of these columns has the origin that its number gives
abbrev pub HaveOrigins : ℕ → (ℕ → Origin) → List ℕ → List Origin → Type 0
HaveOrigins n origin columns origins = (i : ℕ) → i < n → slice_index_or origins (slice_index columns i) (Row 0) ≡ origin i

-- the origins of so many columns' symbols: at each pivot column its row, and at each free column its number among these
pub record AreOrigins (symbols : ℕ) (pivot_rows pivot_columns free : List ℕ) (origins : List Origin) : Type 0 where
  pub count : length origins ≡ symbols
  pub pivots : HaveOrigins (length pivot_columns) (λ i. Row (slice_index pivot_rows i)) pivot_columns origins
  pub columns : HaveOrigins (length free) Free free origins

-- the origin is one of these rows, or one of the free symbols
abbrev pub IsOriginWithin : ℕ → ℕ → Origin → Type 0
IsOriginWithin rows free (Row r) = r < rows
IsOriginWithin rows free (Free i) = i < free

-- the sizes and the numbers fit this many rows and the symbols of the session
pub record IsShaped (session : SessionData) (rows : ℕ) (e : Elimination) : Type 0 where
  pub matrix : IsMatrix e.matrix
  pub row_count : length e.matrix.rows ≡ rows
  pub origins : length e.origins.items ≡ symbols_of session
  pub origins_within : (s : ℕ) → s < symbols_of session → IsOriginWithin rows (length e.free) (origin_of e s)
  pub free_within : All (λ c. c < e.matrix.cols) e.free
  pub zero_within : All (λ r. r < rows) e.zero_rows
  pub fits : All (FitsRows rows) e.plan
  pub plan : IsPlan e.plan

-- the entry of row r for free symbol i
abbrev pub free_entry : Elimination → ℕ → ℕ → ℕ
free_entry e r i = matrix_entry e.matrix r (slice_index e.free i)

-- the sum of row r's entries for the free symbols, each times the value of its symbol
abbrev pub free_sum : Elimination → ℕ → (ℕ → ℕ) → ℕ
free_sum e r v = gf_sum (length e.free) (λ i. gf_mul (free_entry e r i) (v i))

-- the value of a symbol at an origin: that of its row after the plan and that sum, added; or that of its free symbol
abbrev pub value_at : Elimination → List ℕ → (ℕ → ℕ) → Origin → ℕ
value_at e after v (Row r) = gf_add (slice_index after r) (free_sum e r v)
value_at e after v (Free i) = v i

-- the values that the free symbols' values make of all symbols
abbrev pub values_from : Elimination → List ℕ → (ℕ → ℕ) → ℕ → ℕ
values_from e after v s = value_at e after v (origin_of e s)

-- each zero row is 0 after the plan
abbrev pub AreZeroAfter : Elimination → List ℕ → Type 0
AreZeroAfter e after = All (λ r. slice_index after r ≡ 0) e.zero_rows

-- values of the symbols come from values of the free ones
pub record ComesFrom (session : SessionData) (e : Elimination) (after : List ℕ) (x : ℕ → ℕ) : Type 0 where
  pub free : ℕ → ℕ
  pub bytes : AreValues (length e.free) free
  pub each : (s : ℕ) → s < symbols_of session → x s ≡ values_from e after free s

-- Of a column with a byte for each packet: where the zero rows are 0 after the plan, all values of the free symbols make
-- values of the symbols that satisfy the packets; and where values satisfy them, the zero rows are 0, and the values come
-- from some of the free ones. The last symbol of a padded session has a row that takes from no free symbol, if it has one.
pub record IsEliminated (session : SessionData) (packets : List Packet) (e : Elimination) : Type 0 where
  pub shape : IsShaped session (length packets) e
  pub makes : (column : List ℕ) (v : ℕ → ℕ) → length column ≡ length packets → AreBytes column → AreValues (length e.free) v
      → AreZeroAfter e (plan_on_column e.plan column)
      → Satisfies session packets column (values_from e (plan_on_column e.plan column) v)
  pub zero : (column : List ℕ) (x : ℕ → ℕ) → Satisfies session packets column x → AreZeroAfter e (plan_on_column e.plan column)
  pub comes : (column : List ℕ) (x : ℕ → ℕ) → Satisfies session packets column x
      → ComesFrom session e (plan_on_column e.plan column) x
  pub last : (s r i : ℕ) → IsPadded session → suc s ≡ symbols_of session → origin_of e s ≡ Row r → i < length e.free
      → free_entry e r i ≡ 0
