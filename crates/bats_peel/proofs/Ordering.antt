-- The order of peeling as far as it has come, and at its end.
use Rattle.std.proofs.Common.{ℕ, ◌≡◌, ◌≢◌, ◌<◌, ◌-◌, ◌%◌, ◌∙◌, inl, inr, eqb, Bool, true, false, List, [], ◌∷◌, ◌++◌, length, get_or, sym, ap, subst, arith, All, AllPairs}
use Rattle.std.specs.Prelude.{slice_set}
use Rattle.std.specs.List.{list_any}
use Rattle.std.proofs.lemmas.Bool.{both_ways, cases_eq, or_cases, eqb-true, eq-eqb, ne_eqb, cond-true, cond-false, false≢true}
use Rattle.std.proofs.lemmas.List.{length-replicate, length-set, get_or_default, get_or-set_same}
use Rattle.std.proofs.lemmas.List.Elements.{All-push}
use Rattle.std.proofs.lemmas.List.Quantifiers.{all_pairs_push}
use Rattle.bats_model.specs.Session.{SessionData, symbols_of, IsPadded}
use Rattle.bats_model.specs.Peeling.{is_in, with_symbols, set_of, HasAllSymbols, first_inactive, AreInactive, IsInactiveList}
use Rattle.bats_model.specs.declared.packet.Packet.{Packet}
use Rattle.bats_batch.specs.Held.{HeldData, HeldBatch, StandsFor}
use Rattle.bats_peel.specs.declared.local.Local.{Local}
use Rattle.bats_peel.specs.declared.order.Order.{Order}
use Rattle.bats_peel.specs.declared.order.Progress.{Progress}
use Rattle.bats_peel.specs.declared.order.Step.{Step}
use Rattle.bats_peel.specs.steps.Local.{AreLocals}
use Rattle.bats_peel.specs.steps.Order.{AreSteps, IsOrder}
use Rattle.bats_peel.specs.steps.Search.{marked, Walks, IsStill, Grows, AreCounts, IsBest}
use Rattle.bats_batch.proofs.HeldNumbers.{numbers_of, AreHeld-numbers}
use Rattle.bats_peel.proofs.InactiveLists.{AreInactive-begin, AreInactive-push}
use Rattle.bats_peel.proofs.InactiveEntries.{entries_below, entries_once}
use Rattle.bats_peel.proofs.SymbolSets.{outside_count}
use Rattle.bats_peel.proofs.Marking.{length-marked, part-set, marked_is_in, marked-append, marked-none, marked-one, marked-is, blank, set_of-marked, outside-less}
use Rattle.bats_peel.proofs.Walking.{AreLocal, walks-size, walks-part, walks-append, walks-with, walks-once}
use Rattle.bats_peel.proofs.Searching.{goes-longer, goes-fewer}
use Rattle.bats_peel.proofs.Reached.{held_of, reached, first_outside}

-- ---- so far

-- With the inactive symbols so far, of which none comes twice, the steps lead to what is known, from which there is no step.
pub record IsSoFar (session : SessionData) (locals : List Local) (list : List ℕ) (now : Progress) : Type 0 where
  pub walks : Walks locals (marked (blank session) list) now.steps.items now.known.items
  pub still : IsStill locals now.known.items
  pub below : All (λ s. s < symbols_of session) list
  pub once : AllPairs (λ a b. a ≢ b) list

start-size : (session : SessionData) (list : List ℕ) → length (marked (blank session) list) ≡ symbols_of session
start-size session list = length-marked (blank session) list ∙ length-replicate (symbols_of session) false

pub so_far-size : (session : SessionData) (locals : List Local) (list : List ℕ) (now : Progress) → IsSoFar session locals list now
    → length now.known.items ≡ symbols_of session
so_far-size session locals list now so_far =
    walks-size locals (marked (blank session) list) now.steps.items now.known.items so_far.walks ∙ start-size session list

pub so_far-begin : (session : SessionData) (locals : List Local) (list : List ℕ) (now : Progress) → list ≡ first_inactive session
    → Grows locals (marked (blank session) (first_inactive session)) [] now → IsSoFar session locals list now
so_far-begin session locals list now is grows =
    let first : List ℕ = first_inactive session in
    let begun : AreInactive session [] [] first = AreInactive-begin session [] [] in
    subst (λ (l : List ℕ). IsSoFar session locals l now) (sym is) (record {
      walks =
          subst (λ (steps : List Step). Walks locals (marked (blank session) first) steps now.known.items) (sym grows.goes.all) grows.goes.walks;
      still = grows.still;
      below = entries_below session [] [] first begun;
      once = entries_once session [] [] first begun;
    })

-- where the session is padded, its last symbol is the first inactive one
pub first-padded : (session : SessionData) (locals : List Local) (known : List Bool) (steps : List Step) (s : ℕ) (now : Progress)
    → known ≡ blank session → steps ≡ [] → s ≡ symbols_of session - 1 → IsPadded session
    → Grows locals (slice_set known s true) steps now → Grows locals (marked (blank session) (first_inactive session)) [] now
first-padded session locals known steps s now is none last padded grows =
    let part : ℕ = session.file_length % session.t in
    let one : List ℕ = (symbols_of session - 1) ∷ [] in
    let first : first_inactive session ≡ one = cond-false (eqb part 0) [] one (ne_eqb part 0 padded) in
    let set : slice_set known s true ≡ marked (blank session) (first_inactive session) =
    ap (λ (k : List Bool). slice_set k s true) is ∙ ap (λ (u : ℕ). slice_set (blank session) u true) last
    ∙ sym (marked-one (blank session) (symbols_of session - 1)) ∙ ap (marked (blank session)) (sym first) in
    subst (λ (l : List Step). Grows locals (marked (blank session) (first_inactive session)) l now) none
    (subst (λ (k : List Bool). Grows locals k steps now) set grows)

-- and where it isn't there is none yet
pub first-whole : (session : SessionData) (locals : List Local) (known : List Bool) (steps : List Step) (now : Progress)
    → known ≡ blank session → steps ≡ [] → ¬ IsPadded session → Grows locals known steps now
    → Grows locals (marked (blank session) (first_inactive session)) [] now
first-whole session locals known steps now is none whole grows =
    let part : ℕ = session.file_length % session.t in
    let one : List ℕ = (symbols_of session - 1) ∷ [] in
    let zero_part : part ≡ 0 = elim (cases_eq part 0) [ inl e ↦ e | inr apart ↦ absurd (whole apart) ] in
    let first : first_inactive session ≡ [] = cond-true (eqb part 0) [] one (eq-eqb part 0 zero_part) in
    let set : known ≡ marked (blank session) (first_inactive session) =
    is ∙ sym (marked-none (blank session)) ∙ ap (marked (blank session)) (sym first) in
    subst (λ (l : List Step). Grows locals (marked (blank session) (first_inactive session)) l now) none
    (subst (λ (k : List Bool). Grows locals k steps now) set grows)

-- the best symbol, of the same set, counts and number of symbols
pub best-same : (known other : List Bool) (counts others : List ℕ) (n m s : ℕ) → known ≡ other → counts ≡ others → n ≡ m
    → IsBest known counts n s → IsBest other others m s
best-same known other counts others n m s e f g best =
    subst (λ (k : List Bool). IsBest k others m s) e
    (subst (λ (l : List ℕ). IsBest known l m s) f (subst (λ (i : ℕ). IsBest known counts i s) g best))

-- an inactive symbol is known
inside : (session : SessionData) (locals : List Local) (list : List ℕ) (now : Progress) → IsSoFar session locals list now
    → (k : ℕ) (d : ℕ) → k < length list → is_in now.known.items (get_or list k d) ≡ true
inside session locals list now so_far k d within =
    let part = walks-part locals (marked (blank session) list) now.steps.items now.known.items so_far.walks in
    let below : get_or list k 0 < length (blank session) =
    omega (arith, so_far.below k 0 within, length-replicate (symbols_of session) false) in
    subst (λ (s : ℕ). is_in now.known.items s ≡ true) (get_or_default list k 0 d within)
    (part.keeps (get_or list k 0) (marked_is_in (blank session) list k within below))

-- the only symbol of a list of one
only_one : (known : List Bool) (s u : ℕ) → is_in known s ≡ false → list_any (λ v. eqb v u) (s ∷ []) ≡ true → is_in known u ≡ false
only_one known s u out h = elim (or_cases (eqb s u) false h) [
  | inl e ↦ subst (λ (v : ℕ). is_in known v ≡ false) (eqb-true s u e) out
  | inr e ↦ absurd (false≢true e)
]

pub so_far-next : (session : SessionData) (locals : List Local) (list after : List ℕ) (before now : Progress) (s : ℕ)
    → IsSoFar session locals list before → s < symbols_of session → is_in before.known.items s ≡ false → after ≡ list ++ s ∷ []
    → Grows locals (slice_set before.known.items s true) before.steps.items now → IsSoFar session locals after now
so_far-next session locals list after before now s so_far below out is grows =
    let known : List Bool = before.known.items in
    let start : List Bool = marked (blank session) list in
    let with_it : Walks locals (marked start (s ∷ [])) before.steps.items (marked known (s ∷ [])) =
    walks-with locals start before.steps.items known (s ∷ []) (λ u h. only_one known s u out h) so_far.walks in
    let to_it : Walks locals (marked start (s ∷ [])) before.steps.items (slice_set known s true) =
    subst (Walks locals (marked start (s ∷ [])) before.steps.items) (marked-one known s) with_it in
    let on : Walks locals (marked start (s ∷ [])) (before.steps.items ++ grows.goes.more) now.known.items =
    walks-append locals (marked start (s ∷ [])) before.steps.items (slice_set known s true) grows.goes.more now.known.items to_it grows.goes.walks in
    let from : Walks locals (marked (blank session) (list ++ s ∷ [])) (before.steps.items ++ grows.goes.more) now.known.items =
    subst (λ (set : List Bool). Walks locals set (before.steps.items ++ grows.goes.more) now.known.items)
    (sym (marked-append (blank session) list (s ∷ []))) on in
    subst (λ (l : List ℕ). IsSoFar session locals l now) (sym is) (record {
      walks =
          subst (λ (steps : List Step). Walks locals (marked (blank session) (list ++ s ∷ [])) steps now.known.items) (sym grows.goes.all) from;
      still = grows.still;
      below = All-push (λ u. u < symbols_of session) list s so_far.below below;
      once =
          all_pairs_push (λ a b. a ≢ b) list s so_far.once (λ k d within same.
          both_ways (is_in known s) out
          (subst (λ (u : ℕ). is_in known u ≡ true) same (inside session locals list before so_far k d within)));
    })

-- fewer symbols are unknown after it
pub next-fewer : (locals : List Local) (n : ℕ) (before now : Progress) (s : ℕ) → AreLocal n locals → length before.known.items ≡ n → s < n
    → is_in before.known.items s ≡ false → Grows locals (slice_set before.known.items s true) before.steps.items now
    → outside_count n now.known.items < outside_count n before.known.items
next-fewer locals n before now s are size below out grows =
    let known : List Bool = before.known.items in
    let set : List Bool = slice_set known s true in
    let less : outside_count n set < outside_count n known =
    outside-less n known set s (part-set known s) below out (get_or-set_same known s true false (omega (arith, size, below))) in
    omega (
      arith,
      less,
      goes-longer locals set before.steps.items now grows.goes,
      goes-fewer locals n set before.steps.items now are (length-set known s true ∙ size) grows.goes,
    )

-- ---- the inactive list so far

-- it is that of whatever packets these are the locals of
abbrev pub AreInactiveSoFar : SessionData → List Local → List ℕ → Type 0
AreInactiveSoFar session locals list = (batches : List HeldBatch) (packets : List Packet) → AreLocals session batches locals
    → StandsFor packets (held_of session batches) → AreInactive session packets (numbers_of batches) list

pub inactive-begin : (session : SessionData) (locals : List Local) (list : List ℕ) → list ≡ first_inactive session
    → AreInactiveSoFar session locals list
inactive-begin session locals list is batches packets are stands =
    subst (AreInactive session packets (numbers_of batches)) (sym is) (AreInactive-begin session packets (numbers_of batches))

pub inactive-next : (session : SessionData) (locals : List Local) (list after : List ℕ) (counts : List ℕ) (before : Progress) (s : ℕ)
    → IsSoFar session locals list before → AreInactiveSoFar session locals list → length counts ≡ symbols_of session
    → AreCounts locals counts → IsBest before.known.items counts (symbols_of session) s → after ≡ list ++ s ∷ []
    → AreInactiveSoFar session locals after
inactive-next session locals list after counts before s so_far inactive size are_counts best is batches packets are stands =
    let stuck = reached session batches locals are packets stands list before.steps.items before.known.items (start-size session list) so_far.walks so_far.still in
    let first = first_outside session batches locals are packets stands list before.known.items counts s size are_counts stuck best in
    subst (AreInactive session packets (numbers_of batches)) (sym is)
    (AreInactive-push session packets (numbers_of batches) list s (inactive batches packets are stands) first)

-- ---- the end

pub inactive-end : (session : SessionData) (locals : List Local) (list : List ℕ) (now : Progress) → IsSoFar session locals list now
    → AreInactiveSoFar session locals list → HasAllSymbols session now.known.items
    → (held : HeldData) → held.session ≡ session → AreLocals session held.batches locals → (packets : List Packet)
    → StandsFor packets held → IsInactiveList session packets list
inactive-end session locals list now so_far inactive all held same are packets given =
    let batches : List HeldBatch = held.batches in
    let stands : StandsFor packets (held_of session batches) =
    subst (λ (s : SessionData). StandsFor packets (held_of s batches)) same given in
    record {
      numbers = numbers_of batches;
      held = AreHeld-numbers packets (held_of session batches) stands;
      inactive = inactive batches packets are stands;
      stuck = now.known.items;
      is_stuck =
          reached session batches locals are packets stands list now.steps.items now.known.items (start-size session list) so_far.walks so_far.still;
      all = all;
    }

are_steps : (session : SessionData) (locals : List Local) (set : List Bool) (steps : List Step) (end : List Bool)
    → length set ≡ symbols_of session → HasAllSymbols session end → Walks locals set steps end → AreSteps session locals set steps
are_steps session locals set [] end size all walks = subst (HasAllSymbols session) (sym walks) all
are_steps session locals set (step ∷ steps) end size all (local, (taken, rest)) =
    let after : List Bool = marked set local.batch.contributors in
    let more : AreSteps session locals (with_symbols session set local.batch.contributors) steps =
    subst (λ (s : List Bool). AreSteps session locals s steps) (marked-is session set local.batch.contributors size)
    (are_steps session locals after steps end (length-marked set local.batch.contributors ∙ size) all rest) in
    (local, (taken.stands, (taken.fixing, more)))

pub order-end : (session : SessionData) (locals : List Local) (order : Order) (now : Progress) → AreLocal (symbols_of session) locals
    → IsSoFar session locals order.inactive now → order.steps.items ≡ now.steps.items → HasAllSymbols session now.known.items
    → IsOrder session locals order
order-end session locals order now are so_far same all =
    let start : List Bool = marked (blank session) order.inactive in
    let steps : AreSteps session locals start now.steps.items =
    are_steps session locals start now.steps.items now.known.items (start-size session order.inactive) all so_far.walks in
    record {
      steps =
          subst (AreSteps session locals (set_of session order.inactive)) (sym same)
          (subst (λ (s : List Bool). AreSteps session locals s now.steps.items) (set_of-marked session order.inactive) steps);
      once =
          subst (λ (l : List Step). AllPairs (λ (a : Step) (b : Step). a.place ≢ b.place) l) (sym same)
          (walks-once locals (symbols_of session) start now.steps.items now.known.items are (start-size session order.inactive) so_far.walks);
      inactive_once = so_far.once;
      inactive_below = so_far.below;
    }
