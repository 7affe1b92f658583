-- Steps that lead from one set to another: what they bring in, and that symbols outside their end may be added throughout.
use Rattle.std.proofs.Common.{ℕ, zero, suc, ◌≡◌, ◌≢◌, ◌<◌, ◌≤◌, ◌+◌, ◌∙◌, inl, inr, eqb, Bool, true, false, List, [], ◌∷◌, ◌++◌, length, get_or, sym, ap, refl, subst, arith, All, AllPairs, Some, slice_get}
use Rattle.std.specs.List.{list_any}
use Rattle.std.proofs.lemmas.Bool.{cases_lt, both_ways, false_from_ne_true}
use Rattle.std.proofs.lemmas.List.{get_or_past}
use Rattle.std.proofs.lemmas.List.Elements.{All-cons, All-nil, Contains-get_or}
use Rattle.std.proofs.lemmas.Option.{slice_get_within, get_or_from_slice_get}
use Rattle.bats_model.specs.Batch.{degree_of, contributor_of}
use Rattle.bats_model.specs.Peeling.{is_in}
use Rattle.bats_peel.specs.declared.local.Local.{Local}
use Rattle.bats_peel.specs.declared.order.Step.{Step}
use Rattle.bats_peel.specs.steps.Fixing.{IsLocal, IsOutside, FixesIn, IsFixing}
use Rattle.bats_peel.specs.steps.Search.{IsPart, marked, IsTakenAt, Walks}
use Rattle.bats_peel.proofs.SymbolSets.{outside_count}
use Rattle.bats_peel.proofs.Marking.{length-marked, part-itself, part-then, part-marked, marked_is_in, marked-apart, marked-swap, outside-less}

-- each local's contributors are below n
abbrev pub AreLocal : ℕ → List Local → Type 0
AreLocal n locals = All (IsLocal n) locals

pub local_at : (n : ℕ) (locals : List Local) (place : ℕ) (local : Local) → AreLocal n locals → slice_get locals place ≡ Some local
    → IsLocal n local
local_at n locals place local are at =
    subst (IsLocal n) (get_or_from_slice_get locals place local local at) (are place local (slice_get_within locals place local at))

-- ---- one step

-- a contributor outside
pub record HasOutside (local : Local) (set : List Bool) : Type 0 where
  pub place : ℕ
  pub within : place < degree_of local.batch
  pub outside : is_in set (contributor_of local.batch place) ≡ false

pub taken-outside : (locals : List Local) (set : List Bool) (step : Step) (local : Local) → IsTakenAt locals set step local
    → HasOutside local set
taken-outside locals set step local taken =
    let at : IsOutside local set (get_or step.fixing.places 0 0) =
    (taken.fixing.places_are (get_or step.fixing.places 0 0)).0 (Contains-get_or step.fixing.places 0 0 taken.some) in
    record { place = get_or step.fixing.places 0 0; within = at.0; outside = at.1 }

-- after it each contributor is in the set
pub after_step : (set : List Bool) (local : Local) → IsLocal (length set) local → (k : ℕ) → k < degree_of local.batch
    → is_in (marked set local.batch.contributors) (contributor_of local.batch k) ≡ true
after_step set local is k within = marked_is_in set local.batch.contributors k within (is.below k within)

-- so fewer symbols are outside
step-fewer : (locals : List Local) (set : List Bool) (step : Step) (local : Local) → IsLocal (length set) local
    → IsTakenAt locals set step local
    → outside_count (length set) (marked set local.batch.contributors) < outside_count (length set) set
step-fewer locals set step local is taken =
    let out = taken-outside locals set step local taken in
    outside-less (length set) set (marked set local.batch.contributors) (contributor_of local.batch out.place)
    (part-marked set local.batch.contributors) (is.below out.place out.within) out.outside (after_step set local is out.place out.within)

-- ---- where steps lead

pub walks-size : (locals : List Local) (set : List Bool) (steps : List Step) (end : List Bool) → Walks locals set steps end
    → length end ≡ length set
walks-size locals set [] end walks = ap (λ (s : List Bool). length s) (sym walks)
walks-size locals set (step ∷ steps) end (local, (taken, rest)) =
    walks-size locals (marked set local.batch.contributors) steps end rest ∙ length-marked set local.batch.contributors

pub walks-part : (locals : List Local) (set : List Bool) (steps : List Step) (end : List Bool) → Walks locals set steps end
    → IsPart set end
walks-part locals set [] end walks = subst (IsPart set) walks (part-itself set)
walks-part locals set (step ∷ steps) end (local, (taken, rest)) =
    part-then set (marked set local.batch.contributors) end (part-marked set local.batch.contributors)
    (walks-part locals (marked set local.batch.contributors) steps end rest)

pub walks-append : (locals : List Local) (set : List Bool) (steps : List Step) (middle : List Bool) (more : List Step) (end : List Bool)
    → Walks locals set steps middle → Walks locals middle more end → Walks locals set (steps ++ more) end
walks-append locals set [] middle more end first second = subst (λ s. Walks locals s more end) (sym first) second
walks-append locals set (step ∷ steps) middle more end (local, (taken, rest)) second =
    (local, (taken, walks-append locals (marked set local.batch.contributors) steps middle more end rest second))

pub walks-fewer : (locals : List Local) (n : ℕ) (set : List Bool) (steps : List Step) (end : List Bool) → AreLocal n locals
    → length set ≡ n → Walks locals set steps end → outside_count n end + length steps ≤ outside_count n set
walks-fewer locals n set [] end are size walks = omega (arith, ap (λ (s : List Bool). outside_count n s) walks)
walks-fewer locals n set (step ∷ steps) end are size (local, (taken, rest)) =
    let after : List Bool = marked set local.batch.contributors in
    let is : IsLocal (length set) local =
    subst (λ m. IsLocal m local) (sym size) (local_at n locals step.place local are taken.stands) in
    let less : outside_count n after < outside_count n set =
    subst (λ m. outside_count m after < outside_count m set) size (step-fewer locals set step local is taken) in
    let more : outside_count n end + length steps ≤ outside_count n after =
    walks-fewer locals n after steps end are (length-marked set local.batch.contributors ∙ size) rest in
    omega (arith, less, more)

-- ---- symbols outside the end are added

-- a contributor is outside with these symbols where it was without
same_outside : (set : List Bool) (local : Local) (end : List Bool) (more : List ℕ) → length end ≡ length set
    → IsPart (marked set local.batch.contributors) end
    → ((s : ℕ) → list_any (λ u. eqb u s) more ≡ true → is_in end s ≡ false)
    → (k : ℕ) → k < degree_of local.batch
    → is_in (marked set more) (contributor_of local.batch k) ≡ is_in set (contributor_of local.batch k)
same_outside set local end more size part out k within =
    let s : ℕ = contributor_of local.batch k in
    elim (cases_lt s (length set)) [
      | inl below ↦ marked-apart set more s (false_from_ne_true (list_any (λ u. eqb u s) more) (λ h.
          both_ways (is_in end s) (out s h) (part.keeps s (marked_is_in set local.batch.contributors k within below))))
      | inr past ↦ get_or_past (marked set more) s false (omega (arith, past, length-marked set more)) ∙ sym (get_or_past set s false past)
    ]

fixes-part : (local : Local) (set larger : List Bool) → IsPart set larger → FixesIn local set → FixesIn local larger
fixes-part local set larger part fixes values hidden k within =
    fixes values (record {
      bytes = hidden.bytes;
      zero_inside = λ i low h. hidden.zero_inside i low (part.keeps (contributor_of local.batch i) h);
      zero_rows = hidden.zero_rows;
    }) k within

taken-with : (locals : List Local) (set : List Bool) (step : Step) (local : Local) (end : List Bool) (more : List ℕ)
    → length end ≡ length set → IsPart (marked set local.batch.contributors) end
    → ((s : ℕ) → list_any (λ u. eqb u s) more ≡ true → is_in end s ≡ false)
    → IsTakenAt locals set step local → IsTakenAt locals (marked set more) step local
taken-with locals set step local end more size part out taken =
    let same = same_outside set local end more size part out in
    let fixing : IsFixing local set step.fixing = taken.fixing in
    record {
      stands = taken.stands;
      some = taken.some;
      fixes = fixes-part local set (marked set more) (part-marked set more) taken.fixes;
      fixing = record {
        places_are = λ k. (
          λ at. let was = (fixing.places_are k).0 at in (was.0, same k was.0 ∙ was.1),
          λ h. (fixing.places_are k).1 (h.0, sym (same k h.0) ∙ h.1),
        );
        places_once = fixing.places_once;
        plan_fits = fixing.plan_fits;
        is_plan = fixing.is_plan;
        size = fixing.size;
        each_row = fixing.each_row;
        rows_once = fixing.rows_once;
        zero_rows_once = fixing.zero_rows_once;
        apart = fixing.apart;
        few = fixing.few;
        gives = fixing.gives;
        zero = fixing.zero;
      };
    }

pub walks-with : (locals : List Local) (set : List Bool) (steps : List Step) (end : List Bool) (more : List ℕ)
    → ((s : ℕ) → list_any (λ u. eqb u s) more ≡ true → is_in end s ≡ false) → Walks locals set steps end
    → Walks locals (marked set more) steps (marked end more)
walks-with locals set [] end more out walks = ap (λ (s : List Bool). marked s more) walks
walks-with locals set (step ∷ steps) end more out (local, (taken, rest)) =
    let after : List Bool = marked set local.batch.contributors in
    let size : length end ≡ length set = walks-size locals after steps end rest ∙ length-marked set local.batch.contributors in
    let step_with : IsTakenAt locals (marked set more) step local =
    taken-with locals set step local end more size (walks-part locals after steps end rest) out taken in
    let rest_with : Walks locals (marked (marked set more) local.batch.contributors) steps (marked end more) =
    subst (λ (s : List Bool). Walks locals s steps (marked end more)) (marked-swap set local.batch.contributors more)
    (walks-with locals after steps end more out rest) in
    (local, (step_with, rest_with))

-- ---- no batch is taken twice

-- each contributor of the local at this place is in the set
abbrev IsCovered : List Local → List Bool → ℕ → Type 0
IsCovered locals set place = (local : Local) → slice_get locals place ≡ Some local → (k : ℕ) → k < degree_of local.batch
    → is_in set (contributor_of local.batch k) ≡ true

covered-more : (locals : List Local) (set : List Bool) (place : ℕ) (symbols : List ℕ) → IsCovered locals set place
    → IsCovered locals (marked set symbols) place
covered-more locals set place symbols covered local at k within =
    let part = part-marked set symbols in
    part.keeps (contributor_of local.batch k) (covered local at k within)

pub same_local : (locals : List Local) (i j : ℕ) (a b : Local) → i ≡ j → slice_get locals i ≡ Some a → slice_get locals j ≡ Some b → a ≡ b
same_local locals i j a b e h k =
    sym (get_or_from_slice_get locals i a a h) ∙ get_or_from_slice_get locals i b a (ap (λ (n : ℕ). slice_get locals n) e ∙ k)

not_again : (locals : List Local) (set : List Bool) (steps : List Step) (end : List Bool) (place : ℕ) → IsCovered locals set place
    → Walks locals set steps end → All (λ (step : Step). place ≢ step.place) steps
not_again locals set [] end place covered walks = All-nil (λ (step : Step). place ≢ step.place)
not_again locals set (step ∷ steps) end place covered (local, (taken, rest)) =
    let out = taken-outside locals set step local taken in
    All-cons (λ (step : Step). place ≢ step.place) step steps
    (λ e. both_ways (is_in set (contributor_of local.batch out.place)) out.outside
    (covered local (ap (λ (n : ℕ). slice_get locals n) e ∙ taken.stands) out.place out.within))
    (not_again locals (marked set local.batch.contributors) steps end place
    (covered-more locals set place local.batch.contributors covered) rest)

once-cons : (step : Step) (steps : List Step) → All (λ (other : Step). step.place ≢ other.place) steps
    → AllPairs (λ (a : Step) (b : Step). a.place ≢ b.place) steps
    → AllPairs (λ (a : Step) (b : Step). a.place ≢ b.place) (step ∷ steps)
once-cons step steps apart once i zero d lt within = absurd (omega arith)
once-cons step steps apart once zero (suc j) d lt within = apart j d (omega arith)
once-cons step steps apart once (suc i) (suc j) d lt within = once i j d (omega arith) (omega arith)

pub walks-once : (locals : List Local) (n : ℕ) (set : List Bool) (steps : List Step) (end : List Bool) → AreLocal n locals
    → length set ≡ n → Walks locals set steps end → AllPairs (λ (a : Step) (b : Step). a.place ≢ b.place) steps
walks-once locals n set [] end are size walks = λ i j d lt within. absurd (omega arith)
walks-once locals n set (step ∷ steps) end are size (local, (taken, rest)) =
    let after : List Bool = marked set local.batch.contributors in
    let is : IsLocal (length set) local =
    subst (λ m. IsLocal m local) (sym size) (local_at n locals step.place local are taken.stands) in
    let covered : IsCovered locals after step.place = λ other at k within.
    let same : local ≡ other = same_local locals step.place step.place local other refl taken.stands at in
    subst (λ (l : Local). (k : ℕ) → k < degree_of l.batch → is_in after (contributor_of l.batch k) ≡ true) same
    (after_step set local is) k within in
    once-cons step steps (not_again locals after steps end step.place covered rest)
    (walks-once locals n after steps end are (length-marked set local.batch.contributors ∙ size) rest)
