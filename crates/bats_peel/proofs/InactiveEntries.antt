-- The entries of an inactive list: each is a symbol, and none comes twice, so that they are no more than the symbols.
use Rattle.std.proofs.Common.{ℕ, zero, suc, ◌≡◌, ◌≢◌, ◌<◌, ◌≤◌, ◌-◌, ◌%◌, ◌∙◌, inl, inr, eqb, ltb, cond, min, Bool, true, false, List, [], ◌∷◌, length, take, get_or, sym, ap, refl, subst, arith, get_or-take, length-take-le}
use Rattle.std.specs.Prelude.{All}
use Rattle.std.specs.List.{AllPairs, count_by}
use Rattle.std.proofs.lemmas.Bool.{cases_lt, both_ways, eqb-false, lt-ltb, cond-true}
use Rattle.std.proofs.lemmas.List.{get_or_default}
use Rattle.std.proofs.lemmas.List.Elements.{All-head, All-tail, All-weaker, All-from_get_or}
use Rattle.std.proofs.lemmas.List.Sums.{sum_by-cons}
use Rattle.bats_model.specs.Session.{SessionData, symbols_of}
use Rattle.bats_model.specs.Peeling.{is_in, set_of, first_inactive, AreInactive}
use Rattle.bats_model.specs.declared.packet.Packet.{Packet}
use Rattle.bats_sampler.proofs.Unchosen.{length-unchosen}
use Rattle.bats_peel.proofs.SymbolSets.{added_is_in}
use Rattle.bats_peel.proofs.StuckSets.{leads-subset}

-- ---- what the list begins with

first_size : (b : Bool) (s : ℕ) → length (cond b [] (s ∷ [])) ≤ 1
first_size true s = omega arith
first_size false s = omega arith

first_entry : (b : Bool) (symbols i : ℕ) → (b ≡ false → 0 < symbols) → i < length (cond b [] ((symbols - 1) ∷ []))
    → get_or (cond b [] ((symbols - 1) ∷ [])) i 0 < symbols
first_entry true symbols i some within = absurd (omega arith)
first_entry false symbols zero some within = omega (arith, some refl)
first_entry false symbols (suc i) some within = absurd (omega arith)

-- a session with a symbol that is only in part the file's has a symbol
some_symbol : (session : SessionData) → eqb (session.file_length % session.t) 0 ≡ false → 0 < symbols_of session
some_symbol session padded =
    let left : session.file_length % session.t ≢ 0 = eqb-false (session.file_length % session.t) 0 padded in
    let part : min 1 (session.file_length % session.t) ≡ 1 = omega arith in
    omega arith

-- ---- each entry is a symbol

entry_below : (session : SessionData) (packets : List Packet) (numbers list : List ℕ) → AreInactive session packets numbers list
    → (i : ℕ) → i < length list → get_or list i 0 < symbols_of session
entry_below session packets numbers list inactive i within =
    let size : ℕ = length (first_inactive session) in
    elim (cases_lt i size) [
      | inl low ↦
          let entry : get_or list i 0 ≡ get_or (first_inactive session) i 0 =
          sym (get_or-take size list i 0 low) ∙ ap (λ (l : List ℕ). get_or l i 0) inactive.begins in
          subst (λ s. s < symbols_of session) (sym entry)
          (first_entry (eqb (session.file_length % session.t) 0) (symbols_of session) i (some_symbol session) low)
      | inr after ↦ (inactive.further i after within).below
    ]

pub entries_below : (session : SessionData) (packets : List Packet) (numbers list : List ℕ) → AreInactive session packets numbers list
    → All (λ s. s < symbols_of session) list
entries_below session packets numbers list inactive =
    All-from_get_or (λ s. s < symbols_of session) list 0 (entry_below session packets numbers list inactive)

-- ---- none comes twice

entries_apart : (session : SessionData) (packets : List Packet) (numbers list : List ℕ) → AreInactive session packets numbers list
    → (i j : ℕ) → i < j → j < length list → get_or list i 0 ≢ get_or list j 0
entries_apart session packets numbers list inactive i j before within same =
    let short = first_size (eqb (session.file_length % session.t) 0) (symbols_of session - 1) in
    let next = inactive.further j (omega arith) within in
    let front : List ℕ = take j list in
    let size : length front ≡ j = length-take-le j list (omega arith) in
    let below : get_or list i 0 < symbols_of session = entry_below session packets numbers list inactive i (omega arith) in
    let begun : is_in (set_of session front) (get_or list i 0) ≡ true =
    added_is_in session [] front i (get_or list i 0) (omega (arith, size)) (get_or-take j list i 0 before) below in
    let inside : is_in next.stuck (get_or list i 0) ≡ true =
    (leads-subset session packets (set_of session front) next.is_stuck.numbers next.stuck next.is_stuck.leads).keeps (get_or list i 0) below begun in
    both_ways (is_in next.stuck (get_or list j 0)) next.outside (subst (λ s. is_in next.stuck s ≡ true) same inside)

pub entries_once : (session : SessionData) (packets : List Packet) (numbers list : List ℕ) → AreInactive session packets numbers list
    → AllPairs (λ a b. a ≢ b) list
entries_once session packets numbers list inactive i j d before within same =
    entries_apart session packets numbers list inactive i j before within
    (get_or_default list i 0 d (omega arith) ∙ same ∙ get_or_default list j d 0 within)

-- ---- so they are no more than the symbols

count_all : (test : ℕ → Bool) (xs : List ℕ) → All (λ x. test x ≡ true) xs → count_by test xs ≡ length xs
count_all test [] all = refl
count_all test (x ∷ xs) all =
    omega (
      arith,
      sum_by-cons (λ y. cond (test y) 1 0) x xs,
      cond-true {A = ℕ} (test x) 1 0 (All-head (λ y. test y ≡ true) x xs all),
      count_all test xs (All-tail (λ y. test y ≡ true) x xs all),
    )

pub entries_few : (session : SessionData) (packets : List Packet) (numbers list : List ℕ) → AreInactive session packets numbers list
    → length list ≤ symbols_of session
entries_few session packets numbers list inactive =
    let symbols : ℕ = symbols_of session in
    let passes : All (λ s. ltb s symbols ≡ true) list =
    All-weaker (λ s. s < symbols) (λ s. ltb s symbols ≡ true) (λ s low. lt-ltb s symbols low) list
    (entries_below session packets numbers list inactive) in
    omega (
      arith,
      length-unchosen list (entries_once session packets numbers list inactive) symbols,
      count_all (λ s. ltb s symbols) list passes,
    )
