-- Stuck sets: there is one from each set, and it grows with the set.
use Rattle.std.proofs.Common.{ℕ, zero, suc, ◌≡◌, ◌<◌, ◌≤◌, ◌∙◌, ◌⊎◌, ◌↔◌, inl, inr, eqb, Bool, true, false, List, [], ◌∷◌, ◌++◌, length, sym, ap, refl, subst, arith}
use Rattle.std.specs.Prelude.{All, filter}
use Rattle.std.proofs.lemmas.Bool.{cases_eq, cases_lt, cases_Bool, both_ways, eqb-true, false_from_ne_true, cond-false}
use Rattle.std.proofs.lemmas.List.Elements.{All-nil, All-cons, All-weaker, All-head, All-tail}
use Rattle.bats_model.specs.Session.{SessionData, symbols_of}
use Rattle.bats_model.specs.Batch.{batch_of}
use Rattle.bats_model.specs.Kept.{new_after, kept_of}
use Rattle.bats_model.specs.Peeling.{is_in, with_symbols, IsStep, set_after, Leads, IsStuckSet}
use Rattle.bats_model.specs.declared.packet.Packet.{Packet}
use Rattle.bats_model.proofs.EachBatch.{contributor_of-lt}
use Rattle.bats_peel.specs.OneSet.{IsSubset, HasOneStuckSet}
use Rattle.bats_peel.proofs.SymbolSets.{length-with_symbols, added_is_in, cases_in, subset-itself, subset-then, subset-with, with-within, same_sets, outside_count, fewer_outside}
use Rattle.bats_peel.proofs.FixedContributors.{degree_at, symbol_at, Fixes-subset, cases_fixes}

-- no step leads on from the set
abbrev pub IsEnd : SessionData → List Packet → List Bool → Type 0
IsEnd session packets set = (number : ℕ) → ¬ IsStep session packets set number

-- ---- steps stay within a set from which none leads on

-- a batch that steps from a smaller set has all its contributors in it
contributor_within : (session : SessionData) (packets : List Packet) (set stuck : List Bool) (number : ℕ) → IsSubset session set stuck
    → IsEnd session packets stuck → IsStep session packets set number → (k : ℕ) → k < degree_at session number
    → is_in stuck (symbol_at session number k) ≡ true
contributor_within session packets set stuck number part ends step k within =
    elim (cases_Bool (is_in stuck (symbol_at session number k))) [
      | inl e ↦ e
      | inr e ↦ absurd (ends number (record {
        held = step.held;
        place = k;
        within = within;
        outside = e;
        fixes = Fixes-subset session number (kept_of number packets) set stuck part step.fixes;
      }))
    ]

after-within : (session : SessionData) (packets : List Packet) (set stuck : List Bool) (number : ℕ) → IsSubset session set stuck
    → IsEnd session packets stuck → IsStep session packets set number → IsSubset session (set_after session set number) stuck
after-within session packets set stuck number part ends step = record {
  keeps = λ s below h. elim (cases_in session set (batch_of session number).contributors s below h) [
    | inl e ↦ part.keeps s below e
    | inr at ↦ subst (λ u. is_in stuck u ≡ true) at.2
        (contributor_within session packets set stuck number part ends step at.0 at.1)
  ];
}

pub leads-within : (session : SessionData) (packets : List Packet) (set : List Bool) (numbers : List ℕ) (end stuck : List Bool)
    → IsSubset session set stuck → IsEnd session packets stuck → Leads session packets set numbers end → IsSubset session end stuck
leads-within session packets set [] end stuck part ends leads = subst (λ x. IsSubset session x stuck) leads part
leads-within session packets set (number ∷ numbers) end stuck part ends leads =
    leads-within session packets (set_after session set number) numbers end stuck
    (after-within session packets set stuck number part ends leads.0) ends leads.1

-- ---- what steps lead to

pub leads-subset : (session : SessionData) (packets : List Packet) (set : List Bool) (numbers : List ℕ) (end : List Bool)
    → Leads session packets set numbers end → IsSubset session set end
leads-subset session packets set [] end leads = subst (IsSubset session set) leads (subset-itself session set)
leads-subset session packets set (number ∷ numbers) end leads =
    subset-then session set (set_after session set number) end (subset-with session set (batch_of session number).contributors)
    (leads-subset session packets (set_after session set number) numbers end leads.1)

pub leads-size : (session : SessionData) (packets : List Packet) (set : List Bool) (numbers : List ℕ) (end : List Bool)
    → length set ≡ symbols_of session → Leads session packets set numbers end → length end ≡ symbols_of session
leads-size session packets set [] end size leads = subst (λ x. length x ≡ symbols_of session) leads size
leads-size session packets set (number ∷ numbers) end size leads =
    leads-size session packets (set_after session set number) numbers end
    (length-with_symbols session set (batch_of session number).contributors) leads.1

-- one list of steps after another
pub leads-append : (session : SessionData) (packets : List Packet) (set : List Bool) (numbers : List ℕ) (middle : List Bool) (more : List ℕ) (end : List Bool)
    → Leads session packets set numbers middle → Leads session packets middle more end → Leads session packets set (numbers ++ more) end
leads-append session packets set [] middle more end first rest = subst (λ x. Leads session packets x more end) (sym first) rest
leads-append session packets set (number ∷ numbers) middle more end first rest =
    (first.0, leads-append session packets (set_after session set number) numbers middle more end first.1 rest)

-- ---- the stuck set grows with the set

pub stuck-subset : (session : SessionData) (packets : List Packet) (set larger stuck other : List Bool) → IsSubset session set larger
    → IsStuckSet session packets set stuck → IsStuckSet session packets larger other → IsSubset session stuck other
stuck-subset session packets set larger stuck other part h k =
    leads-within session packets set h.numbers stuck other
    (subset-then session set larger other part (leads-subset session packets larger k.numbers other k.leads)) k.ends h.leads

-- ---- there is no other

other_leads : (session : SessionData) (packets : List Packet) (set : List Bool) (first second : List ℕ) (stuck other : List Bool)
    → Leads session packets set first stuck → Leads session packets set second other → IsEnd session packets stuck → IsEnd session packets other
    → stuck ≡ other
other_leads session packets set [] [] stuck other h k ends others = sym h ∙ k
other_leads session packets set [] (number ∷ numbers) stuck other h k ends others =
    absurd (ends number (subst (λ x. IsStep session packets x number) h k.0))
other_leads session packets set (number ∷ numbers) [] stuck other h k ends others =
    absurd (others number (subst (λ x. IsStep session packets x number) k h.0))
other_leads session packets set (one ∷ first) (two ∷ second) stuck other h k ends others =
    let there = leads-within session packets set (one ∷ first) stuck other (leads-subset session packets set (two ∷ second) other k) others h in
    let back = leads-within session packets set (two ∷ second) other stuck (leads-subset session packets set (one ∷ first) stuck h) ends k in
    same_sets session stuck other
    (leads-size session packets (set_after session set one) first stuck (length-with_symbols session set (batch_of session one).contributors) h.1)
    (leads-size session packets (set_after session set two) second other (length-with_symbols session set (batch_of session two).contributors) k.1)
    there back

pub no_other_stuck : (session : SessionData) (packets : List Packet) (set stuck other : List Bool) → IsStuckSet session packets set stuck
    → IsStuckSet session packets set other → stuck ≡ other
no_other_stuck session packets set stuck other h k =
    other_leads session packets set h.numbers k.numbers stuck other h.leads k.leads h.ends k.ends

-- ---- whether there is a step

record OutsideAt (session : SessionData) (number : ℕ) (set : List Bool) : Type 0 where
  place : ℕ
  within : place < degree_at session number
  outside : is_in set (symbol_at session number place) ≡ false

cases_outside : (session : SessionData) (number : ℕ) (set : List Bool) (n : ℕ) → n ≤ degree_at session number
    → OutsideAt session number set ⊎ ((k : ℕ) → k < n → is_in set (symbol_at session number k) ≡ true)
cases_outside session number set zero few = inr (λ k below. absurd (omega arith))
cases_outside session number set (suc n) few = elim (cases_outside session number set n (omega arith)) [
  | inl found ↦ inl found
  | inr inside ↦ elim (cases_Bool (is_in set (symbol_at session number n))) [
    | inl e ↦ inr (λ k below. elim (cases_eq k n) [
      | inl at ↦ subst (λ j. is_in set (symbol_at session number j) ≡ true) (sym at) e
      | inr apart ↦ inside k (omega arith)
    ])
    | inr e ↦ inl (record { place = n; within = omega arith; outside = e })
  ]
]

cases_step : (session : SessionData) (packets : List Packet) (set : List Bool) (number : ℕ)
    → IsStep session packets set number ⊎ (¬ IsStep session packets set number)
cases_step session packets set number = elim (cases_lt 0 (length (kept_of number packets))) [
  | inr none ↦ inr (λ step. let some = step.held in absurd (omega arith))
  | inl held ↦ elim (cases_outside session number set (degree_at session number) (omega arith)) [
    | inr inside ↦ inr (λ step. both_ways (is_in set (symbol_at session number step.place)) step.outside (inside step.place step.within))
    | inl at ↦ elim (cases_fixes session number (kept_of number packets) set) [
      | inr not_fixed ↦ inr (λ step. not_fixed step.fixes)
      | inl fixes ↦ inl (record { held = held; place = at.place; within = at.within; outside = at.outside; fixes = fixes })
    ]
  ]
]

-- of packets whose batches take no step none is in a batch that takes one
passed_none : {X : Type 0} (test : X → Bool) (xs : List X) → All (λ x. test x ≡ false) xs → length (filter test xs) ≡ 0
passed_none test [] none = refl
passed_none {X} test (x ∷ xs) none =
    ap (λ (l : List X). length l) (cond-false (test x) (x ∷ filter test xs) (filter test xs) (All-head (λ x. test x ≡ false) x xs none))
    ∙ passed_none test xs (All-tail (λ x. test x ≡ false) x xs none)

no_step : (session : SessionData) (packets : List Packet) (set : List Bool)
    → All (λ packet. ¬ IsStep session packets set packet.batch) (new_after [] packets) → IsEnd session packets set
no_step session packets set none number step =
    let apart : All (λ packet. eqb packet.batch number ≡ false) (new_after [] packets) =
    All-weaker (λ packet. ¬ IsStep session packets set packet.batch) (λ packet. eqb packet.batch number ≡ false)
    (λ packet not_step. false_from_ne_true (eqb packet.batch number)
    (λ e. not_step (subst (IsStep session packets set) (sym (eqb-true packet.batch number e)) step))) (new_after [] packets) none in
    let some = step.held in
    absurd (omega (arith, passed_none (λ packet. eqb packet.batch number) (new_after [] packets) apart))

-- one of the packets is in a batch that takes a step, or none is
cases_packets : (session : SessionData) (packets : List Packet) (set : List Bool) (list : List Packet)
    → ((number : ℕ) × IsStep session packets set number) ⊎ All (λ packet. ¬ IsStep session packets set packet.batch) list
cases_packets session packets set [] = inr (All-nil (λ packet. ¬ IsStep session packets set packet.batch))
cases_packets session packets set (packet ∷ list) = elim (cases_step session packets set packet.batch) [
  | inl step ↦ inl (packet.batch, step)
  | inr not_step ↦ elim (cases_packets session packets set list) [
    | inl found ↦ inl found
    | inr none ↦ inr (All-cons (λ packet. ¬ IsStep session packets set packet.batch) packet list not_step none)
  ]
]

pub cases_steps : (session : SessionData) (packets : List Packet) (set : List Bool)
    → ((number : ℕ) × IsStep session packets set number) ⊎ IsEnd session packets set
cases_steps session packets set = elim (cases_packets session packets set (new_after [] packets)) [
  | inl found ↦ inl found
  | inr none ↦ inr (no_step session packets set none)
]

-- ---- there is one

pub record HasStuckSet (session : SessionData) (packets : List Packet) (set : List Bool) : Type 0 where
  pub stuck : List Bool
  pub is_stuck : IsStuckSet session packets set stuck

-- a step brings at least one symbol into the set
pub step_fewer : (session : SessionData) (packets : List Packet) (set : List Bool) (number : ℕ) → IsStep session packets set number
    → outside_count (symbols_of session) (set_after session set number) < outside_count (symbols_of session) set
step_fewer session packets set number step =
    let below = contributor_of-lt session number step.place step.within in
    fewer_outside session set (set_after session set number) (symbol_at session number step.place)
    (subset-with session set (batch_of session number).contributors) below step.outside
    (added_is_in session set (batch_of session number).contributors step.place (symbol_at session number step.place) step.within refl below)

after_step : (session : SessionData) (packets : List Packet) (set : List Bool) (number : ℕ) → IsStep session packets set number
    → HasStuckSet session packets (set_after session set number) → HasStuckSet session packets set
after_step session packets set number step rest = record {
  stuck = rest.stuck;
  is_stuck = record {
    numbers = number ∷ rest.is_stuck.numbers;
    leads = (step, rest.is_stuck.leads);
    ends = rest.is_stuck.ends;
  };
}

at_end : (session : SessionData) (packets : List Packet) (set : List Bool) → IsEnd session packets set → HasStuckSet session packets set
at_end session packets set ends = record { stuck = set; is_stuck = record { numbers = []; leads = refl; ends = ends } }

stuck_after : (session : SessionData) (packets : List Packet) (most : ℕ) (set : List Bool)
    → outside_count (symbols_of session) set ≤ most → HasStuckSet session packets set
stuck_after session packets zero set few = elim (cases_steps session packets set) [
  | inl found ↦ let fewer = step_fewer session packets set found.0 found.1 in absurd (omega arith)
  | inr ends ↦ at_end session packets set ends
]
stuck_after session packets (suc most) set few = elim (cases_steps session packets set) [
  | inl found ↦
      let fewer = step_fewer session packets set found.0 found.1 in
      after_step session packets set found.0 found.1 (stuck_after session packets most (set_after session set found.0) (omega arith))
  | inr ends ↦ at_end session packets set ends
]

pub stuck_exists : (session : SessionData) (packets : List Packet) (set : List Bool) → HasStuckSet session packets set
stuck_exists session packets set = stuck_after session packets (outside_count (symbols_of session) set) set (omega arith)

pub one_stuck : (session : SessionData) (packets : List Packet) (set : List Bool) → HasOneStuckSet session packets set
one_stuck session packets set =
    let found = stuck_exists session packets set in
    record {
      stuck = found.stuck;
      is_stuck = found.is_stuck;
      only = λ other h. no_other_stuck session packets set other found.stuck h found.is_stuck;
    }

-- ---- symbols added to the stuck set, and to the set that it is from

stuck-size : (session : SessionData) (packets : List Packet) (set stuck : List Bool) → length set ≡ symbols_of session
    → IsStuckSet session packets set stuck → length stuck ≡ symbols_of session
stuck-size session packets set stuck size h = leads-size session packets set h.numbers stuck size h.leads

-- both lead to one end
same_end : (session : SessionData) (packets : List Packet) (set stuck : List Bool) (symbols : List ℕ) (end other : List Bool)
    → IsStuckSet session packets set stuck
    → IsStuckSet session packets (with_symbols session stuck symbols) end
    → IsStuckSet session packets (with_symbols session set symbols) other
    → end ≡ other
same_end session packets set stuck symbols end other h k j =
    let from_stuck = with_symbols session stuck symbols in
    let from_set = with_symbols session set symbols in
    let reached : IsSubset session from_set other = leads-subset session packets from_set j.numbers other j.leads in
    let begun : IsSubset session set other = subset-then session set from_set other (subset-with session set symbols) reached in
    let grown : IsSubset session stuck other = leads-within session packets set h.numbers stuck other begun j.ends h.leads in
    let there : IsSubset session end other =
    leads-within session packets from_stuck k.numbers end other (with-within session stuck other set symbols grown reached) j.ends k.leads in
    let later : IsSubset session from_stuck end = leads-subset session packets from_stuck k.numbers end k.leads in
    let first : IsSubset session set end =
    subset-then session set stuck end (leads-subset session packets set h.numbers stuck h.leads)
    (subset-then session stuck from_stuck end (subset-with session stuck symbols) later) in
    let back : IsSubset session other end =
    leads-within session packets from_set j.numbers other end (with-within session set end stuck symbols first later) k.ends j.leads in
    same_sets session end other
    (stuck-size session packets from_stuck end (length-with_symbols session stuck symbols) k)
    (stuck-size session packets from_set other (length-with_symbols session set symbols) j) there back

pub goes_on : (session : SessionData) (packets : List Packet) (set stuck : List Bool) (symbols : List ℕ) (end : List Bool)
    → IsStuckSet session packets set stuck
    → IsStuckSet session packets (with_symbols session stuck symbols) end
    ↔ IsStuckSet session packets (with_symbols session set symbols) end
goes_on session packets set stuck symbols end h =
    let from_stuck = stuck_exists session packets (with_symbols session stuck symbols) in
    let from_set = stuck_exists session packets (with_symbols session set symbols) in (
      λ k. subst (IsStuckSet session packets (with_symbols session set symbols))
          (sym (same_end session packets set stuck symbols end from_set.stuck h k from_set.is_stuck)) from_set.is_stuck,
      λ j. subst (IsStuckSet session packets (with_symbols session stuck symbols))
          (same_end session packets set stuck symbols from_stuck.stuck end h from_stuck.is_stuck j) from_stuck.is_stuck,
    )
