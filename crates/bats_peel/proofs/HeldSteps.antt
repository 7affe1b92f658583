-- Steps by held batches: which numbers these have, which of them takes a step, and in how many of them a symbol is.
use Rattle.std.proofs.Common.{ℕ, suc, ◌≡◌, ◌≢◌, ◌<◌, ◌+◌, ◌∙◌, inl, inr, eqb, cond, ◌||◌, Bool, true, false, List, [], ◌∷◌, ◌++◌, length, take, get_or, sym, ap, refl, subst, arith, zero-add}
use Rattle.std.specs.Prelude.{slice_set}
use Rattle.std.specs.List.{AllPairs, Contains, list_any, count_by}
use Rattle.std.proofs.lemmas.Bool.{cases_Bool, or_left, eqb-true, cond-true, cond-false}
use Rattle.std.proofs.lemmas.List.{length-map, take_more}
use Rattle.std.proofs.lemmas.List.Sums.{sum_by-cons, sum_by_more}
use Rattle.bats_model.specs.Session.{SessionData, symbols_of}
use Rattle.bats_model.specs.Batch.{batch_of}
use Rattle.bats_model.specs.Kept.{kept_of}
use Rattle.bats_model.specs.Peeling.{is_in, with_symbols, set_of, Fixes, IsStep, IsStuckSet, held_count}
use Rattle.bats_model.specs.declared.packet.Packet.{Packet}
use Rattle.bats_batch.specs.Held.{HeldData, HeldBatch, StandsFor, batch_at, no_batch}
use Rattle.bats_batch.proofs.HeldNumbers.{numbers_of, number_at, kept_there, AreHeld-numbers}
use Rattle.bats_sampler.proofs.DistinctContributors.{AreContributors-batch_of}
use Rattle.bats_peel.proofs.SymbolSets.{with_symbols-append, with_symbols-one, with_symbols-push, length-with_symbols, found_at}
use Rattle.bats_peel.proofs.FixedContributors.{degree_at, symbol_at}
use Rattle.bats_peel.proofs.StuckSets.{IsEnd, leads-size, goes_on}

-- ---- steps of held batches

-- what is kept of a held batch is what packets keep of it
pub kept_here : (packets : List Packet) (held : HeldData) → StandsFor packets held → (i : ℕ) → i < length held.batches
    → (batch_at held.batches i).kept ≡ kept_of (batch_at held.batches i).number packets
kept_here packets held stands i within =
    sym (kept_there held.batches i stands.rising within) ∙ stands.kept (batch_at held.batches i).number

-- a held batch that fixes its contributors outside, of which there is one, takes a step
pub step_at : (packets : List Packet) (held : HeldData) → StandsFor packets held → (set : List Bool) (i : ℕ) → i < length held.batches
    → Fixes held.session (batch_at held.batches i).number (batch_at held.batches i).kept set
    → (k : ℕ) → k < degree_at held.session (batch_at held.batches i).number
    → is_in set (symbol_at held.session (batch_at held.batches i).number k) ≡ false
    → IsStep held.session packets set (batch_at held.batches i).number
step_at packets held stands set i within fixes k low out =
    let number : ℕ = (batch_at held.batches i).number in
    let same = kept_here packets held stands i within in
    record {
      held = subst (λ (ps : List Packet). 0 < length ps) same (stands.some i no_batch within);
      place = k;
      within = low;
      outside = out;
      fixes = subst (λ (ps : List Packet). Fixes held.session number ps set) same fixes;
    }

-- and only such a batch does
pub fixes_at : (packets : List Packet) (held : HeldData) → StandsFor packets held → (set : List Bool) (i : ℕ) → i < length held.batches
    → IsStep held.session packets set (batch_at held.batches i).number
    → Fixes held.session (batch_at held.batches i).number (batch_at held.batches i).kept set
fixes_at packets held stands set i within step =
    subst (λ (ps : List Packet). Fixes held.session (batch_at held.batches i).number ps set)
    (sym (kept_here packets held stands i within)) step.fixes

-- where no held batch takes a step, no batch does
pub ends_of_held : (packets : List Packet) (held : HeldData) → StandsFor packets held → (set : List Bool)
    → ((i : ℕ) → i < length held.batches → ¬ IsStep held.session packets set (batch_at held.batches i).number)
    → IsEnd held.session packets set
ends_of_held packets held stands set none number step =
    let at : Contains (numbers_of held.batches) number = ((AreHeld-numbers packets held stands).held number).1 step.held in
    let within : at.0 < length held.batches = omega (arith, length-map held.batches (λ (batch : HeldBatch). batch.number), at.1) in
    let same : (batch_at held.batches at.0).number ≡ number = sym (number_at held.batches at.0 number within) ∙ at.2 in
    none at.0 within (subst (IsStep held.session packets set) (sym same) step)

-- ---- a loop over symbols that are added

pub with_symbols-more : (session : SessionData) (set : List Bool) (symbols : List ℕ) (k : ℕ) → k < length symbols
    → with_symbols session set (take (k + 1) symbols)
    ≡ slice_set (with_symbols session set (take k symbols)) (get_or symbols k 0) true
with_symbols-more session set symbols k within =
    ap (with_symbols session set) (take_more symbols k 0 within) ∙ with_symbols-push session set (take k symbols) (get_or symbols k 0)

-- the stuck set from some symbols has one symbol marked: what is stuck from there is stuck from these symbols and that one
pub stuck-push : (session : SessionData) (packets : List Packet) (front : List ℕ) (known : List Bool) (s : ℕ) (next : List Bool)
    → IsStuckSet session packets (set_of session front) known → IsStuckSet session packets (slice_set known s true) next
    → IsStuckSet session packets (set_of session (front ++ s ∷ [])) next
stuck-push session packets front known s next is after =
    let size : length known ≡ symbols_of session =
    leads-size session packets (set_of session front) is.numbers known (length-with_symbols session [] front) is.leads in
    subst (λ (x : List Bool). IsStuckSet session packets x next) (sym (with_symbols-append session [] front (s ∷ [])))
    ((goes_on session packets (set_of session front) known (s ∷ []) next is).0
    (subst (λ (x : List Bool). IsStuckSet session packets x next) (sym (with_symbols-one session known s size)) after))

-- ---- in how many batches a symbol is

distinct-tail : (x : ℕ) (xs : List ℕ) → AllPairs (λ a b. a ≢ b) (x ∷ xs) → AllPairs (λ a b. a ≢ b) xs
distinct-tail x xs distinct i j d lt within = distinct (suc i) (suc j) d (omega arith) (omega arith)

-- the first of distinct numbers isn't among the others
first_apart : (x : ℕ) (xs : List ℕ) → AllPairs (λ a b. a ≢ b) (x ∷ xs) → list_any (λ u. eqb u x) xs ≡ true → ⊥
first_apart x xs distinct h =
    let at = found_at xs x h in
    let within = at.1 in
    distinct 0 (suc at.0) 0 (omega arith) (omega arith) (sym at.2)

-- distinct numbers have a number once or not at all
count_once : (xs : List ℕ) (s : ℕ) → AllPairs (λ a b. a ≢ b) xs
    → count_by (λ u. eqb u s) xs ≡ cond (list_any (λ u. eqb u s) xs) 1 0
count_once [] s distinct = refl
count_once (x ∷ xs) s distinct =
    let rest = count_once xs s (distinct-tail x xs distinct) in
    let first = sum_by-cons (λ u. cond (eqb u s) 1 0) x xs in
    elim (cases_Bool (eqb x s)) [
      | inl e ↦
          let same : x ≡ s = eqb-true x s e in
          elim (cases_Bool (list_any (λ u. eqb u s) xs)) [
            | inl again ↦ absurd (first_apart x xs distinct (subst (λ t. list_any (λ u. eqb u t) xs ≡ true) (sym same) again))
            | inr none ↦ omega (
              arith,
              first,
              rest,
              cond-true {A = ℕ} (eqb x s) 1 0 e,
              cond-false {A = ℕ} (list_any (λ u. eqb u s) xs) 1 0 none,
              cond-true {A = ℕ} (list_any (λ u. eqb u s) (x ∷ xs)) 1 0 (or_left (eqb x s) (list_any (λ u. eqb u s) xs) e),
            )
          ]
      | inr e ↦
          let none : list_any (λ u. eqb u s) (x ∷ xs) ≡ list_any (λ u. eqb u s) xs = ap (λ b. b || list_any (λ u. eqb u s) xs) e in
          first ∙ ap (λ n. n + count_by (λ u. eqb u s) xs) (cond-false {A = ℕ} (eqb x s) 1 0 e)
          ∙ zero-add (count_by (λ u. eqb u s) xs) ∙ rest ∙ ap (λ b. cond {A = ℕ} b 1 0) (sym none)
    ]

-- a batch has a symbol as a contributor once or not at all
pub contributor_once : (session : SessionData) (number s : ℕ)
    → count_by (λ u. eqb u s) (batch_of session number).contributors
    ≡ cond (list_any (λ u. eqb u s) (batch_of session number).contributors) 1 0
contributor_once session number s =
    count_once (batch_of session number).contributors s (AreContributors-batch_of session number).distinct

-- one batch more
pub held_count-more : (session : SessionData) (numbers : List ℕ) (s i : ℕ) → i < length numbers
    → held_count session (take (i + 1) numbers) s
    ≡ held_count session (take i numbers) s + count_by (λ u. eqb u s) (batch_of session (get_or numbers i 0)).contributors
held_count-more session numbers s i within =
    sum_by_more (λ number. cond (list_any (λ u. eqb u s) (batch_of session number).contributors) 1 0) numbers i 0 within
    ∙ ap (λ n. held_count session (take i numbers) s + n) (sym (contributor_once session (get_or numbers i 0) s))
