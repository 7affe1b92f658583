-- How a batch fixes its contributors outside a set, and what holds while that is found out.
use Rattle.std.specs.Prelude.{ℕ, ◌≡◌, ◌≢◌, ◌<◌, ◌≤◌, ◌*◌, ◌⊎◌, ◌↔◌, Bool, true, false, List, All, AllPairs, Contains, length, map, slice_index, Option, None, Some}
use Rattle.std.specs.List.{range_with_len}
use Rattle.gf_core.specs.Field.{gf_mul, gf_sum}
use Rattle.gf_rows.specs.Matrix.{Grid, IsMatrix, matrix_entry}
use Rattle.gf_rows.specs.Equations.{row_value}
use Rattle.gf_rows.specs.Operation.{FitsRows}
use Rattle.gf_rows.specs.Plan.{IsPlan, plan_on_column}
use Rattle.bats_model.specs.Batch.{degree_of, contributor_of, IsBatch}
use Rattle.bats_model.specs.Peeling.{is_in}
use Rattle.bats_peel.specs.declared.local.Local.{Local}
use Rattle.bats_peel.specs.declared.fixing.Fixing.{Fixing}

-- a local whose contributors are below this number of symbols
pub record IsLocal (symbols : ℕ) (local : Local) : Type 0 where
  pub batch : IsBatch local.batch
  pub below : (k : ℕ) → k < degree_of local.batch → contributor_of local.batch k < symbols
  pub matrix : IsMatrix local.matrix
  pub cols : local.matrix.cols ≡ degree_of local.batch

-- contributor k is outside the set
abbrev pub IsOutside : Local → List Bool → ℕ → Type 0
IsOutside local set k = (k < degree_of local.batch) × (is_in set (contributor_of local.batch k) ≡ false)

-- values of the contributors that no row tells from zeros: bytes, 0 inside the set, of which each row makes 0
pub record AreHiddenIn (local : Local) (set : List Bool) (values : ℕ → ℕ) : Type 0 where
  pub bytes : (k : ℕ) → k < degree_of local.batch → values k < 256
  pub zero_inside : (k : ℕ) → k < degree_of local.batch → is_in set (contributor_of local.batch k) ≡ true → values k ≡ 0
  pub zero_rows : (r : ℕ) → r < length local.matrix.rows → row_value local.matrix values r ≡ 0

-- the batch fixes its contributors outside the set
abbrev pub FixesIn : Local → List Bool → Type 0
FixesIn local set = (values : ℕ → ℕ) → AreHiddenIn local set values → (k : ℕ) → k < degree_of local.batch → values k ≡ 0

-- what the rows make of values of the contributors at some places
abbrev pub column_from : Local → List ℕ → (ℕ → ℕ) → List ℕ
column_from local places values =
    map (λ r. gf_sum (length places) (λ i. gf_mul (matrix_entry local.matrix r (slice_index places i)) (values (slice_index places i))))
    (range_with_len 0 (length local.matrix.rows))

-- The places are those outside the set, and the plan leads to them: run on what the rows make of any values of these
-- contributors, it has each value in its row, and 0 in the other rows.
pub record IsFixing (local : Local) (set : List Bool) (fixing : Fixing) : Type 0 where
  pub places_are : (k : ℕ) → Contains fixing.places k ↔ IsOutside local set k
  pub places_once : AllPairs (λ a b. a ≢ b) fixing.places
  pub plan_fits : All (FitsRows (length local.matrix.rows)) fixing.plan
  pub is_plan : IsPlan fixing.plan
  pub size : length fixing.rows ≡ length fixing.places
  pub each_row : (r : ℕ) → r < length local.matrix.rows ↔ (Contains fixing.rows r ⊎ Contains fixing.zero_rows r)
  pub rows_once : AllPairs (λ a b. a ≢ b) fixing.rows
  pub zero_rows_once : AllPairs (λ a b. a ≢ b) fixing.zero_rows
  pub apart : All (λ r. ¬ Contains fixing.zero_rows r) fixing.rows
  pub few : length fixing.plan ≤ length local.matrix.rows * length fixing.places
  pub gives : (values : ℕ → ℕ) → ((k : ℕ) → k < degree_of local.batch → values k < 256) → (i : ℕ) → i < length fixing.places
      → slice_index (plan_on_column fixing.plan (column_from local fixing.places values)) (slice_index fixing.rows i)
      ≡ values (slice_index fixing.places i)
  pub zero : (values : ℕ → ℕ) → ((k : ℕ) → k < degree_of local.batch → values k < 256)
      → All (λ r. slice_index (plan_on_column fixing.plan (column_from local fixing.places values)) r ≡ 0) fixing.zero_rows

-- there is some contributor outside, and the batch fixes them so; or there is none, or it doesn't fix them
abbrev pub FixesAs : Local → List Bool → Option Fixing → Type 0
FixesAs local set (Some fixing) = (0 < length fixing.places) × (FixesIn local set × IsFixing local set fixing)
FixesAs local set None = ((k : ℕ) → ¬ IsOutside local set k) ⊎ (¬ FixesIn local set)

-- ---- while it is found out

-- the places are those below `count` of contributors outside the set, rising
pub record AreOutside (local : Local) (set : List Bool) (count : ℕ) (places : List ℕ) : Type 0 where
  pub are : (k : ℕ) → Contains places k ↔ ((k < count) × (is_in set (contributor_of local.batch k) ≡ false))
  pub rise : AllPairs (λ a b. a < b) places

-- the first `count` rows have the entries of another matrix at these places
pub record HasColumns (m : Grid) (places : List ℕ) (count : ℕ) (columns : Grid) : Type 0 where
  pub matrix : IsMatrix columns
  pub cols : columns.cols ≡ length places
  pub rows : length columns.rows ≡ length m.rows
  pub entries : (r j : ℕ) → r < count → j < length places → matrix_entry columns r j ≡ matrix_entry m r (slice_index places j)
