-- What the search reaches: the stuck sets of the packets, from the steps of their locals, and the counts of their batches.
use Rattle.std.proofs.Common.{ℕ, suc, ◌≡◌, ◌≢◌, ◌<◌, ◌+◌, ◌∙◌, inl, inr, eqb, Bool, false, List, [], ◌∷◌, length, map, take, get_or, sym, ap, refl, subst, arith, All, AllPairs, Some, None, slice_get}
use Rattle.std.specs.List.{list_any, count_by}
use Rattle.std.proofs.lemmas.List.{length-map}
use Rattle.std.proofs.lemmas.List.Sums.{sum_by-cons}
use Rattle.std.proofs.lemmas.Option.{slice_get_within, slice_get_cases, get_or_from_slice_get}
use Rattle.bats_model.specs.Session.{SessionData, symbols_of}
use Rattle.bats_model.specs.Batch.{BatchData, batch_of, degree_of, contributor_of}
use Rattle.bats_model.specs.Peeling.{is_in, with_symbols, set_of, Fixes, IsStep, Leads, IsStuckSet, held_count, ComesBefore, IsFirstOutside}
use Rattle.bats_model.specs.declared.packet.Packet.{Packet}
use Rattle.bats_batch.specs.Held.{HeldData, HeldBatch, StandsFor, batch_at, row_count}
use Rattle.bats_sampler.proofs.DistinctContributors.{AreContributors-batch_of}
use Rattle.bats_peel.specs.declared.local.Local.{Local}
use Rattle.bats_peel.specs.declared.order.Step.{Step}
use Rattle.bats_peel.specs.steps.Local.{IsLocalAt, AreLocals}
use Rattle.bats_peel.specs.steps.Fixing.{FixesAs}
use Rattle.bats_peel.specs.steps.Search.{marked, IsTakenAt, Walks, IsStill, local_count, AreDistinct, AreCounts, GoesFirst, IsBest}
use Rattle.bats_peel.proofs.StuckSets.{IsEnd}
use Rattle.bats_batch.proofs.HeldNumbers.{numbers_of, number_at}
use Rattle.bats_peel.proofs.HeldSteps.{step_at, fixes_at, ends_of_held}
use Rattle.bats_peel.proofs.FixingLemmas.{Fixes-local}
use Rattle.bats_peel.proofs.Marking.{length-marked, marked-is, blank, set_of-marked}
use Rattle.bats_peel.proofs.Counting.{hit}
use Rattle.bats_peel.proofs.Walking.{HasOutside, taken-outside}

-- ---- counts of elements that pass

pub same_counts : {X Y : Type 0} (p : X → Bool) (q : Y → Bool) (xs : List X) (ys : List Y) → length xs ≡ length ys
    → ((k : ℕ) (d : X) (e : Y) → k < length xs → p (get_or xs k d) ≡ q (get_or ys k e)) → count_by p xs ≡ count_by q ys
same_counts p q [] [] size same = refl
same_counts p q [] (y ∷ ys) size same = absurd (omega arith)
same_counts p q (x ∷ xs) [] size same = absurd (omega arith)
same_counts p q (x ∷ xs) (y ∷ ys) size same =
    sum_by-cons (λ v. hit (p v)) x xs
    ∙ ap (λ (b : Bool). hit b + count_by p xs) (same 0 x y (omega arith))
    ∙ ap (λ (n : ℕ). hit (q y) + n) (same_counts p q xs ys (omega arith) (λ k d e within. same (suc k) d e (omega arith)))
    ∙ sym (sum_by-cons (λ v. hit (q v)) y ys)

-- the held data of a session and batches
abbrev pub held_of : SessionData → List HeldBatch → HeldData
held_of session batches = record { session = session; batches = batches }

-- the number of the batch at a step's place
abbrev step_number : List HeldBatch → Step → ℕ
step_number batches step = (batch_at batches step.place).number

module _ (session : SessionData) (batches : List HeldBatch) (locals : List Local) (are : AreLocals session batches locals) where
  -- ---- the local at a place

  place_within : (place : ℕ) (local : Local) → slice_get locals place ≡ Some local → place < length batches
  place_within place local at = omega (arith, are.size, slice_get_within locals place local at)

  local_is : (place : ℕ) (local : Local) → slice_get locals place ≡ Some local → IsLocalAt session batches place local
  local_is place local at =
      subst (IsLocalAt session batches place) (get_or_from_slice_get locals place local local at)
      (are.each place local (place_within place local at))

  -- ---- counts

  pub all_distinct : All AreDistinct locals
  all_distinct k d within =
      let is : IsLocalAt session batches k (get_or locals k d) = are.each k d (omega (arith, are.size, within)) in
      subst (λ (b : BatchData). AllPairs (λ x y. x ≢ y) b.contributors) (sym is.batch_is)
      (AreContributors-batch_of session (batch_at batches k).number).distinct

  pub count_held : (s : ℕ) → local_count locals s ≡ held_count session (numbers_of batches) s
  count_held s =
      let has : BatchData → Bool = λ (b : BatchData). list_any (λ u. eqb u s) b.contributors in
      same_counts (λ (local : Local). has local.batch) (λ number. has (batch_of session number)) locals (numbers_of batches)
      (are.size ∙ sym (length-map batches (λ (batch : HeldBatch). batch.number)))
      (λ k d e within.
      let below : k < length batches = omega (arith, are.size, within) in
      let is : IsLocalAt session batches k (get_or locals k d) = are.each k d below in
      ap has (is.batch_is ∙ ap (batch_of session) (sym (number_at batches k e below))))

  pub counted : (counts : List ℕ) (s : ℕ) → AreCounts locals counts → s < length counts
      → get_or counts s 0 ≡ held_count session (numbers_of batches) s
  counted counts s are_counts below = are_counts all_distinct s below ∙ count_held s

  -- the order by counts is the order by held batches
  pub comes_before : (counts : List ℕ) (s u : ℕ) → AreCounts locals counts → s < length counts → u < length counts
      → GoesFirst counts s u → ComesBefore session (numbers_of batches) s u
  comes_before counts s u are_counts low below (inl less) =
      inl (omega (arith, less, counted counts s are_counts low, counted counts u are_counts below))
  comes_before counts s u are_counts low below (inr same) =
      inr (sym (counted counts u are_counts below) ∙ same.0 ∙ counted counts s are_counts low, same.1)

  -- ---- steps

  module _ (packets : List Packet) (stands : StandsFor packets (held_of session batches)) where
    taken-step : (set : List Bool) (step : Step) (local : Local) → IsTakenAt locals set step local
        → IsStep session packets set (step_number batches step)
    taken-step set step local taken =
        let number : ℕ = step_number batches step in
        let within : step.place < length batches = place_within step.place local taken.stands in
        let is : IsLocalAt session batches step.place local = local_is step.place local taken.stands in
        let out : HasOutside local set = taken-outside locals set step local taken in
        let fixes : Fixes session number (batch_at batches step.place).kept set =
        (Fixes-local session number (row_count (take step.place batches)) (batch_at batches step.place).kept set local is).1 taken.fixes in
        step_at packets (held_of session batches) stands set step.place within fixes out.place
        (subst (λ (b : BatchData). out.place < degree_of b) is.batch_is out.within)
        (subst (λ (b : BatchData). is_in set (contributor_of b out.place) ≡ false) is.batch_is out.outside)

    pub leads : (set : List Bool) (steps : List Step) (end : List Bool) → length set ≡ symbols_of session → Walks locals set steps end
        → Leads session packets set (map (step_number batches) steps) end
    leads set [] end size walks = walks
    leads set (step ∷ steps) end size (local, (taken, rest)) =
        let is : IsLocalAt session batches step.place local = local_is step.place local taken.stands in
        let after : List Bool = marked set local.batch.contributors in
        let same : after ≡ with_symbols session set (batch_of session (step_number batches step)).contributors =
        marked-is session set local.batch.contributors size
        ∙ ap (λ (b : BatchData). with_symbols session set b.contributors) is.batch_is in (
          taken-step set step local taken,
          subst (λ (s : List Bool). Leads session packets s (map (step_number batches) steps) end) same
              (leads after steps end (length-marked set local.batch.contributors ∙ size) rest),
        )

    -- a local that fails leaves no step
    fails-ends : (known : List Bool) (place : ℕ) (local : Local) → place < length batches → slice_get locals place ≡ Some local
        → FixesAs local known None → ¬ IsStep session packets known (batch_at batches place).number
    fails-ends known place local within at (inl none) step =
        let is : IsLocalAt session batches place local = local_is place local at in
        none step.place (
          subst (λ (b : BatchData). step.place < degree_of b) (sym is.batch_is) step.within,
          subst (λ (b : BatchData). is_in known (contributor_of b step.place) ≡ false) (sym is.batch_is) step.outside,
        )
    fails-ends known place local within at (inr not_fixes) step =
        let is : IsLocalAt session batches place local = local_is place local at in
        not_fixes ((Fixes-local session (batch_at batches place).number (row_count (take place batches)) (batch_at batches place).kept known local is).0
        (fixes_at packets (held_of session batches) stands known place within step))

    still-at : (known : List Bool) → IsStill locals known → (place : ℕ) → place < length batches
        → ¬ IsStep session packets known (batch_at batches place).number
    still-at known still place within = elim ((slice_get_cases locals place).1) [
      | inl found ↦
          fails-ends known place found.0 within found.2 (still place (omega (arith, are.size)) found.0 found.2)
      | inr past ↦ absurd (omega (arith, are.size, within, past.0))
    ]

    pub still-ends : (known : List Bool) → IsStill locals known → IsEnd session packets known
    still-ends known still = ends_of_held packets (held_of session batches) stands known (still-at known still)

    -- what is known is the stuck set from these symbols
    pub reached : (list : List ℕ) (steps : List Step) (known : List Bool) → length (marked (blank session) list) ≡ symbols_of session
        → Walks locals (marked (blank session) list) steps known → IsStill locals known
        → IsStuckSet session packets (set_of session list) known
    reached list steps known size walks still = record {
      numbers = map (step_number batches) steps;
      leads =
          subst (λ (s : List Bool). Leads session packets s (map (step_number batches) steps) known) (set_of-marked session list)
          (leads (marked (blank session) list) steps known size walks);
      ends = still-ends known still;
    }

    pub first_outside : (list : List ℕ) (known : List Bool) (counts : List ℕ) (s : ℕ) → length counts ≡ symbols_of session
        → AreCounts locals counts → IsStuckSet session packets (set_of session list) known → IsBest known counts (symbols_of session) s
        → IsFirstOutside session packets (numbers_of batches) list s
    first_outside list known counts s size are_counts is best = record {
      stuck = known;
      is_stuck = is;
      below = best.below;
      outside = best.outside;
      first = λ u below out apart.
          comes_before counts s u are_counts (omega (arith, size, best.below)) (omega (arith, size, below)) (best.first u below out apart);
    }
