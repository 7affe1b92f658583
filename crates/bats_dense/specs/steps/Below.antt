-- The reduced form as far as the first columns go.
use Rattle.std.specs.Prelude.{ℕ, ◌≡◌, ◌≢◌, ◌<◌, Bool, true, false, List, All, AllPairs, Contains, length, slice_index, slice_index_or}
use Rattle.gf_rows.specs.Matrix.{Grid, matrix_entry}
use Rattle.bats_dense.specs.declared.progress.Progress.{Progress}
use Rattle.bats_dense.specs.Reduced.{AreSplit, ArePivots, AreCleared}

-- whether the equation at this place has a pivot
abbrev pub is_used : List Bool → ℕ → Bool
is_used used k = slice_index_or used k false

-- the row is an equation that has a pivot
pub record IsUsedRow (eqs : List ℕ) (used : List Bool) (row : ℕ) : Type 0 where
  pub place : ℕ
  pub within : place < length eqs
  pub used_there : is_used used place ≡ true
  pub is : slice_index eqs place ≡ row

-- the reduced form in the first c columns: the equations that have no pivot are 0 there
pub record IsReducedBelow (c : ℕ) (m : Grid) (eqs others : List ℕ) (used : List Bool) (pivot_rows pivot_columns free : List ℕ) : Type 0 where
  pub columns : AreSplit c pivot_columns free
  pub pivots : ArePivots m pivot_rows pivot_columns
  pub from_used : All (IsUsedRow eqs used) pivot_rows
  pub each : (k : ℕ) → k < length eqs → is_used used k ≡ true → Contains pivot_rows (slice_index eqs k)
  pub rest : (k : ℕ) → k < length eqs → is_used used k ≡ false → (j : ℕ) → j < c → matrix_entry m (slice_index eqs k) j ≡ 0
  pub cleared : AreCleared m others pivot_columns
  pub places : length used ≡ length eqs

-- what the reduction has come to after the first c columns
abbrev pub IsProgressBelow : ℕ → List ℕ → List ℕ → Progress → Type 0
IsProgressBelow c eqs others p = IsReducedBelow c p.matrix eqs others p.used.items p.pivot_rows p.pivot_columns p.free

-- the equation at this place has no pivot, and isn't 0 in the column
pub record IsPivotPlace (m : Grid) (eqs : List ℕ) (used : List Bool) (column place : ℕ) : Type 0 where
  pub within : place < length eqs
  pub unused : is_used used place ≡ false
  pub entry : matrix_entry m (slice_index eqs place) column ≢ 0

-- the row is one of the first n equations, and has no pivot
pub record IsUnusedRow (n : ℕ) (eqs : List ℕ) (used : List Bool) (row : ℕ) : Type 0 where
  pub place : ℕ
  pub within : place < n
  pub unused : is_used used place ≡ false
  pub is : slice_index eqs place ≡ row

-- those of the first n equations that have no pivot
pub record AreUnused (n : ℕ) (eqs : List ℕ) (used : List Bool) (rows : List ℕ) : Type 0 where
  pub are : All (IsUnusedRow n eqs used) rows
  pub each : (k : ℕ) → k < n → is_used used k ≡ false → Contains rows (slice_index eqs k)
  pub once : AllPairs (λ a b. a ≢ b) rows
