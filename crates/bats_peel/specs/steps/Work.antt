-- What holds while the row operations of peeling are done.
use Rattle.std.specs.Prelude.{ℕ, ◌≡◌, ◌≢◌, ◌<◌, ◌≤◌, ◌+◌, ◌*◌, ◌⊎◌, Bool, true, false, if◌then◌else◌, List, [], ◌∷◌, All, AllPairs, Contains, length, map, take, slice_index, slice_index_or}
use Rattle.gf_rows.specs.Matrix.{IsMatrix}
use Rattle.gf_rows.specs.Operation.{FitsRows}
use Rattle.bats_model.specs.Session.{SessionData, symbols_of}
use Rattle.bats_model.specs.Batch.{batch_of, degree_of}
use Rattle.bats_model.specs.Values.{packet_value, AreByteValues}
use Rattle.bats_model.specs.Peeling.{is_in}
use Rattle.bats_model.specs.declared.packet.Packet.{Packet}
use Rattle.bats_batch.specs.Held.{HeldBatch, batch_at, kept_packets, max_kept, row_count}
use Rattle.bats_peel.specs.declared.peeled.Place.{Place}
use Rattle.bats_peel.specs.declared.peeled.Place.TheVariants.{Row, Column}
use Rattle.bats_peel.specs.declared.work.Work.{Work}
use Rattle.bats_peel.specs.Peeled.{place_of}
use Rattle.bats_peel.specs.steps.Parts.{part, place_value}

-- the payload row of a held batch's first kept packet
abbrev pub first_row : List HeldBatch → ℕ → ℕ
first_row batches b = row_count (take b batches)

-- how many packets of a held batch are kept
abbrev pub rank_of : List HeldBatch → ℕ → ℕ
rank_of batches b = length (batch_at batches b).kept

-- a symbol's place, and whether it is known
abbrev pub place_in : Work → ℕ → Place
place_in work s = place_of work.places.items s

abbrev pub is_known : Work → ℕ → Bool
is_known work s = is_in work.known.items s

abbrev pub is_taken : Work → ℕ → Bool
is_taken work b = is_in work.taken.items b

-- the column that values of the symbols make of the kept packets
abbrev pub packet_column : SessionData → List HeldBatch → (ℕ → ℕ) → List ℕ
packet_column session batches x = map (λ packet. packet_value session packet x) (kept_packets batches)

-- the values of the columns' symbols
abbrev pub inactive_values : Work → (ℕ → ℕ) → ℕ → ℕ
inactive_values work x j = x (slice_index work.columns j)

-- what row r gives with these values of the symbols
abbrev pub given_by : SessionData → List HeldBatch → Work → (ℕ → ℕ) → ℕ → ℕ
given_by session batches work x r = part work.matrix work.plan (packet_column session batches x) (inactive_values work x) r

-- what the place of symbol s gives
abbrev pub value_at : SessionData → List HeldBatch → Work → (ℕ → ℕ) → ℕ → ℕ
value_at session batches work x s =
    place_value work.matrix work.plan (packet_column session batches x) (inactive_values work x) (place_in work s)

-- symbol s is at a row, or at its own column
abbrev pub StandsIn : ℕ → List ℕ → ℕ → Place → Type 0
StandsIn rows columns s (Row r) = r < rows
StandsIn rows columns s (Column j) = (j < length columns) × (slice_index columns j ≡ s)

-- the row is no symbol's, and isn't left over
pub record IsFree (symbols : ℕ) (work : Work) (r : ℕ) : Type 0 where
  pub not_left : ¬ Contains work.leftover r
  pub no_symbol : (s : ℕ) → s < symbols → is_known work s ≡ true → place_in work s ≢ Row r

-- the row is left over, or a symbol's
abbrev pub IsSettled : ℕ → Work → ℕ → Type 0
IsSettled symbols work r = Contains work.leftover r ⊎ ((s : ℕ) × (s < symbols) × (is_known work s ≡ true) × (place_in work s ≡ Row r))

-- rows of the batches that were taken
unfoldable pub taken_rows : List HeldBatch → List Bool → ℕ
taken_rows [] taken = 0
taken_rows (batch ∷ batches) [] = 0
taken_rows (batch ∷ batches) (b ∷ taken) = (if b then length batch.kept else 0) + taken_rows batches taken

-- each batch's degree is at most this
abbrev pub AreDegreesWithin : SessionData → List HeldBatch → ℕ → Type 0
AreDegreesWithin session batches most = (b : ℕ) → b < length batches → degree_of (batch_of session (batch_at batches b).number) ≤ most

-- Each known symbol is its value at its place, and each row that is left over 0. The rows of a batch that wasn't taken give
-- its packets.
pub record IsWork (session : SessionData) (batches : List HeldBatch) (work : Work) : Type 0 where
  pub matrix : IsMatrix work.matrix
  pub rows : length work.matrix.rows ≡ row_count batches
  pub limit : row_count batches ≤ max_kept
  pub cols : work.matrix.cols ≡ length work.columns
  pub fits : All (FitsRows (row_count batches)) work.plan
  pub places : length work.places.items ≡ symbols_of session
  pub known : length work.known.items ≡ symbols_of session
  pub taken : length work.taken.items ≡ length batches
  pub columns_below : All (λ s. s < symbols_of session) work.columns
  pub at_columns : (j : ℕ) → j < length work.columns
      → (is_known work (slice_index work.columns j) ≡ true) × (place_in work (slice_index work.columns j) ≡ Column j)
  pub each : (s : ℕ) → s < symbols_of session → is_known work s ≡ true → StandsIn (row_count batches) work.columns s (place_in work s)
  pub values : (x : ℕ → ℕ) → AreByteValues session x → (s : ℕ) → s < symbols_of session → is_known work s ≡ true
      → value_at session batches work x s ≡ x s
  pub rows_once : (s u r : ℕ) → s < symbols_of session → u < symbols_of session → is_known work s ≡ true → is_known work u ≡ true
      → place_in work s ≡ Row r → place_in work u ≡ Row r → s ≡ u
  pub leftover_within : All (λ r. r < row_count batches) work.leftover
  pub leftover_once : AllPairs (λ a b. a ≢ b) work.leftover
  pub leftover_no_symbol : (s r : ℕ) → s < symbols_of session → is_known work s ≡ true → place_in work s ≡ Row r → ¬ Contains work.leftover r
  pub leftover_zero : (x : ℕ → ℕ) → AreByteValues session x → (r : ℕ) → Contains work.leftover r → given_by session batches work x r ≡ 0
  pub untouched : (b : ℕ) → b < length batches → is_taken work b ≡ false → (i : ℕ) → i < rank_of batches b
      → IsFree (symbols_of session) work (first_row batches b + i)
  pub packets : (x : ℕ → ℕ) → AreByteValues session x → (b : ℕ) → b < length batches → is_taken work b ≡ false → (i : ℕ) (d : Packet)
      → i < rank_of batches b → given_by session batches work x (first_row batches b + i)
      ≡ packet_value session (slice_index_or (batch_at batches b).kept i d) x
  pub settled : (b : ℕ) → b < length batches → is_taken work b ≡ true → (i : ℕ) → i < rank_of batches b
      → IsSettled (symbols_of session) work (first_row batches b + i)
  pub few : (most : ℕ) → AreDegreesWithin session batches most → length work.plan ≤ taken_rows batches work.taken.items * most

-- the first `count` of these symbols are known and at these places, and the others as before
pub record GivesPlaces (count : ℕ) (symbol : ℕ → ℕ) (place : ℕ → Place) (places : List Place) (known : List Bool) (new_places : List Place) (new_known : List Bool) : Type 0 where
  pub places_size : length new_places ≡ length places
  pub known_size : length new_known ≡ length known
  pub here : (i : ℕ) → i < count → (is_in new_known (symbol i) ≡ true) × (place_of new_places (symbol i) ≡ place i)
  pub others : (s : ℕ) → ((i : ℕ) → i < count → symbol i ≢ s) → (is_in new_known s ≡ is_in known s) × (place_of new_places s ≡ place_of places s)
