-- What the payload rows give: a row's byte after the plan, and its entries times the values of the inactive symbols.
use Rattle.std.specs.Prelude.{ℕ, zero, suc, ◌≡◌, ◌≢◌, ◌<◌, ◌≤◌, ◌+◌, ◌⊎◌, Bool, true, if◌then◌else◌, List, All, length, map}
use Rattle.std.specs.List.{range_with_len}
use Rattle.gf_core.specs.Field.{gf_add, gf_mul, gf_sum}
use Rattle.gf_rows.specs.declared.operation.Op.{Op}
use Rattle.gf_rows.specs.Matrix.{Grid, IsMatrix, matrix_entry}
use Rattle.gf_rows.specs.Equations.{AreValues, row_result}
use Rattle.gf_rows.specs.Operation.{FitsRows}
use Rattle.gf_rows.specs.Plan.{plan_on_column}
use Rattle.bats_model.specs.Batch.{contributor_of}
use Rattle.bats_model.specs.Peeling.{is_in}
use Rattle.bats_peel.specs.declared.local.Local.{Local}
use Rattle.bats_peel.specs.declared.peeled.Place.{Place}
use Rattle.bats_peel.specs.declared.peeled.Place.TheVariants.{Row, Column}
use Rattle.bats_peel.specs.Peeled.{place_of}

-- what row r gives, of a column before the plan
abbrev pub part : Grid → List Op → List ℕ → (ℕ → ℕ) → ℕ → ℕ
part m plan column values r = row_result m (plan_on_column plan column) values r

-- what the row or the column of a place gives
abbrev pub place_value : Grid → List Op → List ℕ → (ℕ → ℕ) → Place → ℕ
place_value m plan column values (Row r) = part m plan column values r
place_value m plan column values (Column j) = values j

-- what so many rows from a first one on give
abbrev pub segment : Grid → List Op → List ℕ → (ℕ → ℕ) → ℕ → ℕ → List ℕ
segment m plan column values first count = map (λ i. part m plan column values (first + i)) (range_with_len 0 count)

-- a byte for each row, and a byte as the value of each column's symbol
pub record AreValuesOf (m : Grid) (column : List ℕ) (values : ℕ → ℕ) : Type 0 where
  pub size : length column ≡ length m.rows
  pub bytes : AreValues m.cols values

-- ---- what operations keep and change

-- the sizes stay, and the plan still fits
pub record Keeps (m n : Grid) (p q : List Op) : Type 0 where
  pub matrix : IsMatrix n
  pub cols : n.cols ≡ m.cols
  pub rows : length n.rows ≡ length m.rows
  pub fits : All (FitsRows (length m.rows)) p → All (FitsRows (length m.rows)) q

-- the row gives this, of any column and values, and the others what they gave
pub record Sets (row : ℕ) (m n : Grid) (p q : List Op) (given : List ℕ → (ℕ → ℕ) → ℕ) : Type 0 where
  pub keeps : Keeps m n p q
  pub here : (column : List ℕ) (values : ℕ → ℕ) → AreValuesOf m column values → part n q column values row ≡ given column values
  pub others : (column : List ℕ) (values : ℕ → ℕ) → AreValuesOf m column values → (r : ℕ) → r ≢ row
      → part n q column values r ≡ part m p column values r

-- so many rows from the first on give this, and the others what they gave
pub record Changes (first count : ℕ) (m n : Grid) (p q : List Op) (given : List ℕ → (ℕ → ℕ) → ℕ → ℕ) : Type 0 where
  pub keeps : Keeps m n p q
  pub here : (column : List ℕ) (values : ℕ → ℕ) → AreValuesOf m column values → (i : ℕ) → i < count
      → part n q column values (first + i) ≡ given column values i
  pub others : (column : List ℕ) (values : ℕ → ℕ) → AreValuesOf m column values → (r : ℕ) → r < first ⊎ first + count ≤ r
      → part n q column values r ≡ part m p column values r

-- ---- terms of known symbols

-- a place that a row can take from: another row, or a column
abbrev pub IsApart : Grid → ℕ → Place → Type 0
IsApart m row (Row r) = (r < length m.rows) × (row ≢ r)
IsApart m row (Column j) = j < m.cols

-- a place that is none of so many rows from the first on
abbrev pub IsBeyond : Grid → ℕ → ℕ → Place → Type 0
IsBeyond m first count (Row r) = (r < length m.rows) × (r < first ⊎ first + count ≤ r)
IsBeyond m first count (Column j) = j < m.cols

-- each known symbol is at a place that the row can take from
abbrev pub ArePlacesApart : Grid → ℕ → List Place → List Bool → Type 0
ArePlacesApart m row places known = (s : ℕ) → s < length places → is_in known s ≡ true → IsApart m row (place_of places s)

-- each known symbol is beyond these rows
abbrev pub ArePlacesBeyond : Grid → ℕ → ℕ → List Place → List Bool → Type 0
ArePlacesBeyond m first count places known = (s : ℕ) → s < length places → is_in known s ≡ true → IsBeyond m first count (place_of places s)

-- a factor times a value where the symbol is known, else 0
abbrev pub known_term : Bool → ℕ → ℕ → ℕ
known_term known factor value = if known then gf_mul factor value else 0

-- what contributor k adds to row i of a batch, where it is known
abbrev pub contributor_term : Local → ℕ → List Place → List Bool → Grid → List Op → List ℕ → (ℕ → ℕ) → ℕ → ℕ
contributor_term local i places known m p column values k =
    known_term (is_in known (contributor_of local.batch k)) (matrix_entry local.matrix i k)
    (place_value m p column values (place_of places (contributor_of local.batch k)))

-- what a row gives with the terms of the first `count` contributors added
abbrev pub with_terms : ℕ → Local → ℕ → ℕ → List Place → List Bool → Grid → List Op → List ℕ → (ℕ → ℕ) → ℕ
with_terms count local row i places known m p column values =
    gf_add (part m p column values row) (gf_sum count (contributor_term local i places known m p column values))

-- at how many of the first places the test holds
unfoldable pub count_true : ℕ → (ℕ → Bool) → ℕ
count_true zero test = 0
count_true (suc n) test = count_true n test + (if test n then 1 else 0)

-- how many of the first contributors are known
abbrev pub known_count : Local → List Bool → ℕ → ℕ
known_count local known n = count_true n (λ k. is_in known (contributor_of local.batch k))
