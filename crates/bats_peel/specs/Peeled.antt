-- What peeling gives: where each symbol of the session is left by row operations on the payload rows.
use Rattle.std.specs.Prelude.{ℕ, ◌≡◌, ◌≢◌, ◌<◌, ◌⊎◌, ◌↔◌, List, [], ◌∷◌, ◌++◌, All, AllPairs, Contains, length, slice_index, slice_index_or, if◌then◌else◌, ◌==◌, ◌%◌}
use Rattle.gf_core.specs.Bytes.{AreBytes}
use Rattle.gf_rows.specs.Matrix.{IsMatrix}
use Rattle.gf_rows.specs.Equations.{Solves, row_result}
use Rattle.gf_rows.specs.Operation.{FitsRows}
use Rattle.gf_rows.specs.Plan.{IsPlan, plan_on_column}
use Rattle.bats_model.specs.Session.{SessionData, symbols_of}
use Rattle.bats_model.specs.Values.{Satisfies, AreByteValues}
use Rattle.bats_model.specs.declared.packet.Packet.{Packet}
use Rattle.bats_peel.specs.declared.peeled.Place.{Place}
use Rattle.bats_peel.specs.declared.peeled.Place.TheVariants.{Row, Column}
use Rattle.bats_peel.specs.declared.peeled.Peeled.{Peeled}

-- the place of symbol s
abbrev pub place_of : List Place → ℕ → Place
place_of places s = slice_index_or places s (Row 0)

-- the inactive symbols in the order of the columns: the last symbol, which comes first where the session is padded, is moved
-- to the end
abbrev pub columns_of : SessionData → List ℕ → List ℕ
columns_of session [] = []
columns_of session (s ∷ list) = if session.file_length % session.t == 0 then (s ∷ list) else (list ++ s ∷ [])

-- a symbol is at its own column, or at a row
abbrev pub StandsAt : Peeled → ℕ → Place → Type 0
StandsAt peeled s (Row r) = r < length peeled.rows.rows
StandsAt peeled s (Column j) = (j < length peeled.columns) × (slice_index peeled.columns j ≡ s)

-- Sizes, and where symbols and rows are: each column has its own symbol, each other symbol its own row, and each row is one
-- symbol's or left over.
pub record IsPlaced (session : SessionData) (rows : ℕ) (peeled : Peeled) : Type 0 where
  pub matrix : IsMatrix peeled.rows
  pub row_count : length peeled.rows.rows ≡ rows
  pub cols : peeled.rows.cols ≡ length peeled.columns
  pub columns : peeled.columns ≡ columns_of session peeled.inactive
  pub columns_below : All (λ s. s < symbols_of session) peeled.columns
  pub columns_once : AllPairs (λ a b. a ≢ b) peeled.columns
  pub places : length peeled.places ≡ symbols_of session
  pub each : (s : ℕ) → s < symbols_of session → StandsAt peeled s (place_of peeled.places s)
  pub at_columns : (j : ℕ) → j < length peeled.columns → place_of peeled.places (slice_index peeled.columns j) ≡ Column j
  pub rows_once : (s u r : ℕ) → s < symbols_of session → u < symbols_of session → place_of peeled.places s ≡ Row r
      → place_of peeled.places u ≡ Row r → s ≡ u
  pub leftover_within : All (λ r. r < rows) peeled.leftover
  pub leftover_once : AllPairs (λ a b. a ≢ b) peeled.leftover
  pub leftover_no_symbol : (s r : ℕ) → s < symbols_of session → place_of peeled.places s ≡ Row r → ¬ Contains peeled.leftover r
  pub every_row : (r : ℕ) → r < rows → Contains peeled.leftover r
      ⊎ ((s : ℕ) × (s < symbols_of session) × (place_of peeled.places s ≡ Row r))
  pub fits : All (FitsRows rows) peeled.plan
  pub plan : IsPlan peeled.plan

-- the value of the symbol of each column
abbrev pub column_values : Peeled → (ℕ → ℕ) → ℕ → ℕ
column_values peeled x j = x (slice_index peeled.columns j)

-- each symbol with a row is what that row gives: its byte after the plan, and its entries times the inactive symbols
abbrev pub GiveSymbols : SessionData → Peeled → List ℕ → (ℕ → ℕ) → Type 0
GiveSymbols session peeled after x = (s r : ℕ) → s < symbols_of session → place_of peeled.places s ≡ Row r
    → x s ≡ row_result peeled.rows after (column_values peeled x) r

-- Of any column with a byte for each packet, and any values of the symbols: they satisfy the packets exactly where, once the
-- plan was run on the column, each symbol with a row is what its row gives, and the inactive symbols solve the leftover rows.
pub record IsPeeled (session : SessionData) (packets : List Packet) (peeled : Peeled) : Type 0 where
  pub placed : IsPlaced session (length packets) peeled
  pub solutions : (column : List ℕ) (x : ℕ → ℕ) → length column ≡ length packets → AreBytes column → AreByteValues session x
      → Satisfies session packets column x
      ↔ (GiveSymbols session peeled (plan_on_column peeled.plan column) x
      × Solves peeled.rows (plan_on_column peeled.plan column) peeled.leftover (column_values peeled x))
