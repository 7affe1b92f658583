-- The origins of the columns' symbols, written one column after another.
use Rattle.std.proofs.Common.{ℕ, ◌≡◌, ◌≢◌, ◌<◌, ◌+◌, ◌∙◌, inl, inr, List, length, get_or, set, sym, ap, subst, arith, get_or-set_same, get_or-set_other}
use Rattle.std.specs.Prelude.{All, AllPairs, Contains}
use Rattle.std.proofs.lemmas.Bool.{cases_lt}
use Rattle.std.proofs.lemmas.List.Elements.{Contains-get_or}
use Rattle.bats_dense.specs.Reduced.{AreSplit}
use Rattle.bats_dense.proofs.Completing.{rising-apart, pivot-not-free}
use Rattle.bats_peel.proofs.PlaceSums.{rising-at_least}
use Rattle.bats_decode.specs.declared.elimination.Origin.{Origin}
use Rattle.bats_decode.specs.declared.elimination.Origin.TheVariants.{Row}
use Rattle.bats_decode.specs.steps.Eliminated.{HaveOrigins}

-- ---- numbers

-- rising numbers are at least their places, so there are no more of them than the numbers that they are below
pub rising-count : (xs : List ℕ) (n i : ℕ) → AllPairs (λ a b. a < b) xs → All (λ j. j < n) xs → i < length xs → i < n
rising-count xs n i rise within h = omega (arith, rising-at_least xs i rise h, within i 0 h)

-- ---- origins

pub HaveOrigins-none : (origin : ℕ → Origin) (columns : List ℕ) (origins : List Origin) → HaveOrigins 0 origin columns origins
HaveOrigins-none origin columns origins i h = absurd (omega arith)

-- one more column
pub HaveOrigins-more : (n : ℕ) (origin : ℕ → Origin) (columns : List ℕ) (origins : List Origin) → AllPairs (λ a b. a < b) columns
    → n < length columns → get_or columns n 0 < length origins → HaveOrigins n origin columns origins
    → HaveOrigins (n + 1) origin columns (set origins (get_or columns n 0) (origin n))
HaveOrigins-more n origin columns origins rise h within before i below =
    elim (cases_lt i n) [
      | inl early ↦
          get_or-set_other origins (get_or columns n 0) (get_or columns i 0) (origin n) (Row 0)
          (rising-apart columns i n rise (omega arith) h (omega arith)) ∙
          before i early
      | inr late ↦
          let e : i ≡ n = omega arith in
          ap (λ k. get_or (set origins (get_or columns n 0) (origin n)) (get_or columns k 0) (Row 0)) e ∙
          (get_or-set_same origins (get_or columns n 0) (origin n) (Row 0) within ∙ ap origin (sym e))
    ]

-- an origin written at another column
pub HaveOrigins-other : (n j : ℕ) (origin : ℕ → Origin) (columns : List ℕ) (origins : List Origin) (new : Origin)
    → ((i : ℕ) → i < n → get_or columns i 0 ≢ j) → HaveOrigins n origin columns origins → HaveOrigins n origin columns (set origins j new)
HaveOrigins-other n j origin columns origins new apart before i h =
    get_or-set_other origins j (get_or columns i 0) new (Row 0) (apart i h) ∙ before i h

-- a pivot column is no free column
pub pivot-apart : (symbols : ℕ) (pivots free : List ℕ) (i k : ℕ) → AreSplit symbols pivots free → i < length pivots → k < length free
    → get_or pivots i 0 ≢ get_or free k 0
pivot-apart symbols pivots free i k split h w e =
    pivot-not-free symbols pivots free split (get_or pivots i 0) (Contains-get_or pivots i 0 h)
    (subst (Contains free) (sym e) (Contains-get_or free k 0 w))
