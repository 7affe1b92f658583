-- The order of peeling, as the row operations rely on it.
use Rattle.std.specs.Prelude.{◌≡◌, ◌≢◌, ◌<◌, Bool, List, [], ◌∷◌, All, AllPairs, slice_get, Some}
use Rattle.bats_model.specs.Session.{SessionData, symbols_of}
use Rattle.bats_model.specs.Peeling.{HasAllSymbols, set_of, with_symbols}
use Rattle.bats_peel.specs.declared.local.Local.{Local}
use Rattle.bats_peel.specs.declared.order.Order.{Order}
use Rattle.bats_peel.specs.declared.order.Step.{Step}
use Rattle.bats_peel.specs.steps.Fixing.{IsFixing}

-- the batch at each step's place fixes its contributors outside the set so far, which has all its contributors from then
-- on, and in the end the set has each symbol
abbrev pub AreSteps : SessionData → List Local → List Bool → List Step → Type 0
AreSteps session locals set [] = HasAllSymbols session set
AreSteps session locals set (step ∷ steps) =
    (local : Local) × ((slice_get locals step.place ≡ Some local) × (IsFixing local set step.fixing
    × AreSteps session locals (with_symbols session set local.batch.contributors) steps))

-- with all of the inactive symbols known, of which none comes twice, the steps lead to all symbols. No batch is taken twice.
pub record IsOrder (session : SessionData) (locals : List Local) (order : Order) : Type 0 where
  pub steps : AreSteps session locals (set_of session order.inactive) order.steps.items
  pub once : AllPairs (λ a b. a.place ≢ b.place) order.steps.items
  pub inactive_once : AllPairs (λ a b. a ≢ b) order.inactive
  pub inactive_below : All (λ s. s < symbols_of session) order.inactive
