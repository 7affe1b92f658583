-- Where peeling leaves the symbols, and the origins that follow from those of the columns.
use Rattle.std.specs.Prelude.{ℕ, ◌≡◌, ◌≢◌, ◌<◌, List, All, AllPairs, Contains, slice_index_or}
use Rattle.bats_peel.specs.Peeled.{place_of}
use Rattle.bats_peel.specs.declared.peeled.Place.{Place}
use Rattle.bats_peel.specs.declared.peeled.Place.TheVariants.{Row as OwnRow, Column}
use Rattle.bats_decode.specs.declared.elimination.Origin.{Origin}
use Rattle.bats_decode.specs.declared.elimination.Origin.TheVariants.{Row}

-- of the first n symbols, no two have the same row
abbrev pub HaveOwnRows : ℕ → List Place → Type 0
HaveOwnRows n left = (s u r : ℕ) → s < n → u < n → place_of left s ≡ OwnRow r → place_of left u ≡ OwnRow r → s ≡ u

-- one of the first n symbols has this row
pub record HasSymbol (n : ℕ) (left : List Place) (r : ℕ) : Type 0 where
  pub symbol : ℕ
  pub within : symbol < n
  pub at : place_of left symbol ≡ OwnRow r

-- the rows of those of the first n symbols that have one, each told once
pub record AreOwnRows (n : ℕ) (left : List Place) (rows : List ℕ) : Type 0 where
  pub are : All (HasSymbol n left) rows
  pub each : (s r : ℕ) → s < n → place_of left s ≡ OwnRow r → Contains rows r
  pub once : AllPairs (λ a b. a ≢ b) rows

-- of the first n symbols, each with a column has one of so many
abbrev pub HaveColumns : ℕ → ℕ → List Place → Type 0
HaveColumns n columns left = (s j : ℕ) → s < n → place_of left s ≡ Column j → j < columns

-- the origin of a symbol that peeling left here, by the origins of the columns' symbols
abbrev pub origin_after : List Origin → Place → Origin
origin_after columns (OwnRow r) = Row r
origin_after columns (Column j) = slice_index_or columns j (Row 0)
