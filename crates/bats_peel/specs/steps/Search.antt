-- The search for the order of peeling: what it has come to, and what each part of it does.
use Rattle.std.specs.Prelude.{not, ℕ, ◌≡◌, ◌≢◌, ◌<◌, ◌≤◌, ◌⊎◌, ◌||◌, ◌==◌, Bool, true, false, List, [], ◌∷◌, ◌++◌, All, AllPairs, map, length, slice_get, slice_index, Option, Some, None}
use Rattle.std.specs.List.{range_with_len, list_any, count_by}
use Rattle.bats_model.specs.Peeling.{is_in}
use Rattle.bats_peel.specs.declared.local.Local.{Local}
use Rattle.bats_peel.specs.declared.order.Progress.{Progress}
use Rattle.bats_peel.specs.declared.order.Step.{Step}
use Rattle.bats_peel.specs.steps.Fixing.{FixesIn, FixesAs, IsFixing}

-- ---- sets

-- each symbol of the one set is in the other
pub record IsPart (set larger : List Bool) : Type 0 where
  pub keeps : (s : ℕ) → is_in set s ≡ true → is_in larger s ≡ true

-- the set with these symbols added
unfoldable pub marked : List Bool → List ℕ → List Bool
marked set symbols = map (λ s. is_in set s || list_any (λ u. u == s) symbols) (range_with_len 0 (length set))

-- ---- steps

-- the local at the step's place is this one: it has contributors outside the set, and fixes them so
pub record IsTakenAt (locals : List Local) (set : List Bool) (step : Step) (local : Local) : Type 0 where
  pub stands : slice_get locals step.place ≡ Some local
  pub some : 0 < length step.fixing.places
  pub fixes : FixesIn local set
  pub fixing : IsFixing local set step.fixing

-- steps, one after another, lead from one set to another
abbrev pub Walks : List Local → List Bool → List Step → List Bool → Type 0
Walks locals set [] end = set ≡ end
Walks locals set (step ∷ steps) end =
    (local : Local) × (IsTakenAt locals set step local × Walks locals (marked set local.batch.contributors) steps end)

-- the local at this place has no contributor outside the set, or doesn't fix them
abbrev pub FailsAt : List Local → List Bool → ℕ → Type 0
FailsAt locals set place = (local : Local) → slice_get locals place ≡ Some local → FixesAs local set None

-- there is no step from the set
abbrev pub IsStill : List Local → List Bool → Type 0
IsStill locals set = (place : ℕ) → place < length locals → FailsAt locals set place

-- ---- tests

-- how many contributors are outside the set
abbrev pub unknown_contributors : Local → List Bool → ℕ
unknown_contributors local set = count_by (λ s. not (is_in set s)) local.batch.contributors

-- Of each local it is known that it fails while so many of its contributors are outside: at this set, and at each larger one.
pub record AreTested (locals : List Local) (set : List Bool) (tested : List ℕ) : Type 0 where
  pub size : length tested ≡ length locals
  pub fails : (place : ℕ) (local : Local) (larger : List Bool) → slice_get locals place ≡ Some local → IsPart set larger
      → unknown_contributors local larger ≡ slice_index tested place → FixesAs local larger None

-- ---- progress

-- from this set, and these steps, more steps lead to what there is now
pub record Goes (locals : List Local) (set : List Bool) (steps : List Step) (now : Progress) : Type 0 where
  pub more : List Step
  pub all : now.steps.items ≡ steps ++ more
  pub walks : Walks locals set more now.known.items

-- the locals at these places were tried: where none was taken, each of them fails
pub record Tries (locals : List Local) (low high : ℕ) (before now : Progress) : Type 0 where
  pub goes : Goes locals before.known.items before.steps.items now
  pub fails : length now.steps.items ≡ length before.steps.items → (place : ℕ) → low ≤ place → place < high
      → FailsAt locals before.known.items place

-- more steps lead to a set from which there is none
pub record Grows (locals : List Local) (set : List Bool) (steps : List Step) (now : Progress) : Type 0 where
  pub goes : Goes locals set steps now
  pub still : IsStill locals now.known.items

-- ---- counts

-- in how many of the locals' batches symbol s is
abbrev pub local_count : List Local → ℕ → ℕ
local_count locals s = count_by (λ local. list_any (λ u. u == s) local.batch.contributors) locals

-- no contributor stands twice
abbrev pub AreDistinct : Local → Type 0
AreDistinct local = AllPairs (λ a b. a ≢ b) local.batch.contributors

-- the counts are those of the locals, where no batch has a contributor twice
abbrev pub AreCounts : List Local → List ℕ → Type 0
AreCounts locals counts = All AreDistinct locals → (s : ℕ) → s < length counts → slice_index counts s ≡ local_count locals s

-- ---- the next inactive symbol

-- symbol s has the greater count, or the same and the lower number
abbrev pub GoesFirst : List ℕ → ℕ → ℕ → Type 0
GoesFirst counts s u = slice_index counts u < slice_index counts s
    ⊎ ((slice_index counts u ≡ slice_index counts s) × s < u)

-- symbol s is the first of the order among those below n that aren't known
pub record IsBest (known : List Bool) (counts : List ℕ) (n s : ℕ) : Type 0 where
  pub below : s < n
  pub outside : is_in known s ≡ false
  pub first : (u : ℕ) → u < n → is_in known u ≡ false → u ≢ s → GoesFirst counts s u

-- the best of the symbols below n, if one isn't known
abbrev pub IsBestOf : List Bool → List ℕ → ℕ → Option ℕ → Type 0
IsBestOf known counts n None = (u : ℕ) → u < n → is_in known u ≡ true
IsBestOf known counts n (Some s) = IsBest known counts n s
