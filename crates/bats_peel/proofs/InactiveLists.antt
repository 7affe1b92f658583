-- Inactive lists: there is one for each list of packets.
use Rattle.std.proofs.Common.{ℕ, zero, suc, ◌≡◌, ◌≢◌, ◌<◌, ◌≤◌, ◌+◌, ◌-◌, ◌∙◌, ◌⊎◌, inl, inr, Bool, true, false, List, [], ◌∷◌, ◌++◌, length, take, get_or, sym, ap, refl, subst, arith, take_all, length-take}
use Rattle.std.proofs.lemmas.Bool.{cases_eq, cases_order, cases_Bool, both_ways}
use Rattle.std.proofs.lemmas.List.{take_more, take-append-le, get_or_append_left, get_or_at, length_push}
use Rattle.bats_model.specs.Session.{SessionData, symbols_of}
use Rattle.bats_model.specs.Peeling.{is_in, set_of, HasAllSymbols, IsStuckSet, held_count, ComesBefore, IsFirstOutside, first_inactive, AreInactive, IsInactiveList}
use Rattle.bats_model.specs.declared.packet.Packet.{Packet}
use Rattle.bats_peel.specs.OneSet.{IsSubset, HasOneInactiveList}
use Rattle.bats_peel.proofs.SymbolSets.{with_symbols-append, added_is_in, subset-with, outside_count, fewer_outside}
use Rattle.bats_peel.proofs.StuckSets.{leads-subset, stuck-subset, no_other_stuck, stuck_exists}
use Rattle.bats_model.proofs.RisingNumbers.{one_held}
use Rattle.bats_peel.proofs.HeldNumbers.{held_exists}

-- ---- the first symbol outside

-- of two symbols one comes first
order-once : (session : SessionData) (numbers : List ℕ) (s u : ℕ) → ComesBefore session numbers s u → ComesBefore session numbers u s → ⊥
order-once session numbers s u (inl h) (inl k) = absurd (omega arith)
order-once session numbers s u (inl h) (inr k) = let same = k.0 in absurd (omega arith)
order-once session numbers s u (inr h) (inl k) = let same = h.0 in absurd (omega arith)
order-once session numbers s u (inr h) (inr k) = let low = h.1 in let high = k.1 in absurd (omega arith)

order-then : (session : SessionData) (numbers : List ℕ) (s t u : ℕ) → ComesBefore session numbers s t → ComesBefore session numbers t u
    → ComesBefore session numbers s u
order-then session numbers s t u (inl h) (inl k) = inl (omega arith)
order-then session numbers s t u (inl h) (inr k) = let same = k.0 in inl (omega arith)
order-then session numbers s t u (inr h) (inl k) = let same = h.0 in inl (omega arith)
order-then session numbers s t u (inr h) (inr k) =
    let low = h.1 in let high = k.1 in let one = h.0 in let two = k.0 in inr (two ∙ one, omega arith)

pub cases_before : (session : SessionData) (numbers : List ℕ) (s u : ℕ) → s < u
    → ComesBefore session numbers s u ⊎ ComesBefore session numbers u s
cases_before session numbers s u low = elim (cases_order (held_count session numbers u) (held_count session numbers s)) [
  | inl same ↦ inl (inr (same, low))
  | inr (inl less) ↦ inl (inl less)
  | inr (inr more) ↦ inr (inl more)
]

same_first : (session : SessionData) (packets : List Packet) (numbers symbols : List ℕ) (s u : ℕ)
    → IsFirstOutside session packets numbers symbols s → IsFirstOutside session packets numbers symbols u → s ≡ u
same_first session packets numbers symbols s u h k = elim (cases_eq s u) [
  | inl e ↦ e
  | inr apart ↦
      let same : h.stuck ≡ k.stuck = no_other_stuck session packets (set_of session symbols) h.stuck k.stuck h.is_stuck k.is_stuck in
      absurd (order-once session numbers s u
      (h.first u k.below (subst (λ x. is_in x u ≡ false) (sym same) k.outside) (λ e. apart (sym e)))
      (k.first s h.below (subst (λ x. is_in x s ≡ false) same h.outside) apart))
]

-- ---- there is no other list

-- two lists agree as far as both go
same_fronts : (session : SessionData) (packets : List Packet) (numbers one other : List ℕ) → AreInactive session packets numbers one
    → AreInactive session packets numbers other → (more : ℕ)
    → length (first_inactive session) + more ≤ length one → length (first_inactive session) + more ≤ length other
    → take (length (first_inactive session) + more) one ≡ take (length (first_inactive session) + more) other
same_fronts session packets numbers one other h k zero within reach =
    let first : List ℕ = first_inactive session in
    let e : length first ≡ length first + 0 = omega arith in
    subst (λ n. take n one ≡ take n other) e (h.begins ∙ sym k.begins)
same_fronts session packets numbers one other h k (suc more) within reach =
    let i : ℕ = length (first_inactive session) + more in
    let before : take i one ≡ take i other = same_fronts session packets numbers one other h k more (omega arith) (omega arith) in
    let here : i < length one = omega arith in
    let there : i < length other = omega arith in
    let same : get_or one i 0 ≡ get_or other i 0 =
    same_first session packets numbers (take i one) (get_or one i 0) (get_or other i 0) (h.further i (omega arith) here)
    (subst (λ front. IsFirstOutside session packets numbers front (get_or other i 0)) (sym before) (k.further i (omega arith) there)) in
    let e : i + 1 ≡ length (first_inactive session) + suc more = omega arith in
    subst (λ n. take n one ≡ take n other) e
    (take_more one i 0 here ∙ ap (λ front. front ++ get_or one i 0 ∷ []) before
    ∙ ap (λ s. take i other ++ s ∷ []) same ∙ sym (take_more other i 0 there))

-- the list has what it begins with
begin-within : (session : SessionData) (packets : List Packet) (numbers list : List ℕ) → AreInactive session packets numbers list
    → length (first_inactive session) ≤ length list
begin-within session packets numbers list h =
    omega (arith, length-take (length (first_inactive session)) list, ap (λ (l : List ℕ). length l) h.begins)

-- no symbol is outside a stuck set that has all
none_outside : (session : SessionData) (packets : List Packet) (numbers symbols : List ℕ) (s : ℕ) (stuck : List Bool)
    → IsStuckSet session packets (set_of session symbols) stuck → HasAllSymbols session stuck
    → IsFirstOutside session packets numbers symbols s → ⊥
none_outside session packets numbers symbols s stuck is all next =
    let same : next.stuck ≡ stuck = no_other_stuck session packets (set_of session symbols) next.stuck stuck next.is_stuck is in
    both_ways (is_in next.stuck s) next.outside (subst (λ x. is_in x s ≡ true) (sym same) (all s next.below))

-- none goes on after the other has ended
no_longer : (session : SessionData) (packets : List Packet) (numbers one other : List ℕ) → AreInactive session packets numbers one
    → AreInactive session packets numbers other → (stuck : List Bool) → IsStuckSet session packets (set_of session one) stuck
    → HasAllSymbols session stuck → length one < length other → ⊥
no_longer session packets numbers one other h k stuck is all longer =
    let first : ℕ = length (first_inactive session) in
    let begun : first ≤ length one = begin-within session packets numbers one h in
    let e : first + (length one - first) ≡ length one = omega arith in
    let fronts : take (length one) one ≡ take (length one) other =
    subst (λ n. take n one ≡ take n other) e
    (same_fronts session packets numbers one other h k (length one - first) (omega arith) (omega arith)) in
    let front_is : take (length one) other ≡ one = sym fronts ∙ take_all (length one) one (omega arith) in
    none_outside session packets numbers one (get_or other (length one) 0) stuck is all
    (subst (λ front. IsFirstOutside session packets numbers front (get_or other (length one) 0)) {y = one} front_is
    (k.further (length one) begun longer))

same_list : (session : SessionData) (packets : List Packet) (numbers one other : List ℕ) → AreInactive session packets numbers one
    → AreInactive session packets numbers other → length one ≡ length other → one ≡ other
same_list session packets numbers one other h k same =
    let first : ℕ = length (first_inactive session) in
    let begun : first ≤ length one = begin-within session packets numbers one h in
    let e : first + (length one - first) ≡ length one = omega arith in
    let fronts : take (length one) one ≡ take (length one) other =
    subst (λ n. take n one ≡ take n other) e
    (same_fronts session packets numbers one other h k (length one - first) (omega arith) (omega arith)) in
    sym (take_all (length one) one (omega arith)) ∙ fronts ∙ take_all (length one) other (omega arith)

pub no_other_list : (session : SessionData) (packets : List Packet) (one other : List ℕ) → IsInactiveList session packets one
    → IsInactiveList session packets other → one ≡ other
no_other_list session packets one other h k =
    let numbers : List ℕ = h.numbers in
    let also : AreInactive session packets numbers other =
    subst (λ n. AreInactive session packets n other) (one_held packets k.numbers numbers k.held h.held) k.inactive in
    elim (cases_order (length one) (length other)) [
      | inl same ↦ same_list session packets numbers one other h.inactive also same
      | inr (inl less) ↦ absurd (no_longer session packets numbers one other h.inactive also h.stuck h.is_stuck h.all less)
      | inr (inr more) ↦ absurd (no_longer session packets numbers other one also h.inactive k.stuck k.is_stuck k.all more)
    ]

-- ---- the first symbol outside, where there is one

-- the first of the order among the symbols below n outside a set
pub record IsBest (session : SessionData) (numbers : List ℕ) (stuck : List Bool) (n : ℕ) : Type 0 where
  pub symbol : ℕ
  pub below : symbol < n
  pub outside : is_in stuck symbol ≡ false
  pub first : (u : ℕ) → u < n → is_in stuck u ≡ false → u ≢ symbol → ComesBefore session numbers symbol u

-- one symbol more, that is in the set
pub keep_best : (session : SessionData) (numbers : List ℕ) (stuck : List Bool) (n : ℕ) → is_in stuck n ≡ true
    → IsBest session numbers stuck n → IsBest session numbers stuck (suc n)
keep_best session numbers stuck n inside best = record {
  symbol = best.symbol;
  below = omega (arith, best.below);
  outside = best.outside;
  first = λ u low out apart. elim (cases_eq u n) [
    | inl e ↦ absurd (both_ways (is_in stuck n) (subst (λ j. is_in stuck j ≡ false) e out) inside)
    | inr other ↦ best.first u (omega arith) out apart
  ];
}

-- one that comes after the best
pub still_best : (session : SessionData) (numbers : List ℕ) (stuck : List Bool) (n : ℕ) → (best : IsBest session numbers stuck n)
    → ComesBefore session numbers best.symbol n → IsBest session numbers stuck (suc n)
still_best session numbers stuck n best before = record {
  symbol = best.symbol;
  below = omega (arith, best.below);
  outside = best.outside;
  first = λ u low out apart. elim (cases_eq u n) [
    | inl e ↦ subst (ComesBefore session numbers best.symbol) (sym e) before
    | inr other ↦ best.first u (omega arith) out apart
  ];
}

-- one that comes before it
pub new_best : (session : SessionData) (numbers : List ℕ) (stuck : List Bool) (n : ℕ) → is_in stuck n ≡ false
    → (best : IsBest session numbers stuck n) → ComesBefore session numbers n best.symbol → IsBest session numbers stuck (suc n)
new_best session numbers stuck n out best before = record {
  symbol = n;
  below = omega arith;
  outside = out;
  first = λ u low outside apart. elim (cases_eq u best.symbol) [
    | inl e ↦ subst (ComesBefore session numbers n) (sym e) before
    | inr other ↦ order-then session numbers n best.symbol u before (best.first u (omega arith) outside other)
  ];
}

-- the first that is outside
pub only_best : (session : SessionData) (numbers : List ℕ) (stuck : List Bool) (n : ℕ) → is_in stuck n ≡ false
    → ((s : ℕ) → s < n → is_in stuck s ≡ true) → IsBest session numbers stuck (suc n)
only_best session numbers stuck n out all = record {
  symbol = n;
  below = omega arith;
  outside = out;
  first = λ u low outside apart. absurd (both_ways (is_in stuck u) outside (all u (omega arith)));
}

cases_best : (session : SessionData) (numbers : List ℕ) (stuck : List Bool) (n : ℕ)
    → IsBest session numbers stuck n ⊎ ((s : ℕ) → s < n → is_in stuck s ≡ true)
cases_best session numbers stuck zero = inr (λ s below. absurd (omega arith))
cases_best session numbers stuck (suc n) = elim (cases_Bool (is_in stuck n)) [
  | inl inside ↦ elim (cases_best session numbers stuck n) [
    | inl best ↦ inl (keep_best session numbers stuck n inside best)
    | inr all ↦ inr (λ s below. elim (cases_eq s n) [
      | inl e ↦ subst (λ j. is_in stuck j ≡ true) (sym e) inside
      | inr apart ↦ all s (omega arith)
    ])
  ]
  | inr out ↦ elim (cases_best session numbers stuck n) [
    | inl best ↦ elim (cases_before session numbers best.symbol n best.below) [
      | inl before ↦ inl (still_best session numbers stuck n best before)
      | inr after ↦ inl (new_best session numbers stuck n out best after)
    ]
    | inr all ↦ inl (only_best session numbers stuck n out all)
  ]
]

-- ---- there is a list

-- what the list begins with, alone
pub AreInactive-begin : (session : SessionData) (packets : List Packet) (numbers : List ℕ)
    → AreInactive session packets numbers (first_inactive session)
AreInactive-begin session packets numbers = record {
  begins = take_all (length (first_inactive session)) (first_inactive session) (omega arith);
  further = λ i after within. absurd (omega arith);
}

-- and one entry more
pub AreInactive-push : (session : SessionData) (packets : List Packet) (numbers front : List ℕ) (s : ℕ)
    → AreInactive session packets numbers front → IsFirstOutside session packets numbers front s
    → AreInactive session packets numbers (front ++ s ∷ [])
AreInactive-push session packets numbers front s so_far first = record {
  begins = take-append-le (length (first_inactive session)) front (s ∷ []) (begin-within session packets numbers front so_far) ∙ so_far.begins;
  further = λ i after within.
      let size : length (front ++ s ∷ []) ≡ length front + 1 = length_push front s in
      let begun : take i (front ++ s ∷ []) ≡ take i front = take-append-le i front (s ∷ []) (omega arith) in
      elim (cases_eq i (length front)) [
        | inl e ↦
            let entry : get_or (front ++ s ∷ []) i 0 ≡ s = get_or_at front s [] 0 i (sym e) in
            subst (λ u. IsFirstOutside session packets numbers (take i (front ++ s ∷ [])) u) (sym entry)
            (subst (λ l. IsFirstOutside session packets numbers l s) (sym (begun ∙ take_all i front (omega arith))) first)
        | inr apart ↦
            let low : i < length front = omega arith in
            let entry : get_or (front ++ s ∷ []) i 0 ≡ get_or front i 0 = get_or_append_left front (s ∷ []) 0 i low in
            subst (λ u. IsFirstOutside session packets numbers (take i (front ++ s ∷ [])) u) (sym entry)
            (subst (λ l. IsFirstOutside session packets numbers l (get_or front i 0)) (sym begun) (so_far.further i after low))
      ];
}

record HasInactive (session : SessionData) (packets : List Packet) (numbers : List ℕ) : Type 0 where
  list : List ℕ
  inactive : AreInactive session packets numbers list
  stuck : List Bool
  is_stuck : IsStuckSet session packets (set_of session list) stuck
  all : HasAllSymbols session stuck

-- the stuck set with one symbol more
record IsNextStuck (session : SessionData) (packets : List Packet) (front : List ℕ) (stuck : List Bool) (s : ℕ) : Type 0 where
  next : List Bool
  is_stuck : IsStuckSet session packets (set_of session (front ++ s ∷ [])) next
  fewer : outside_count (symbols_of session) next < outside_count (symbols_of session) stuck

next_stuck : (session : SessionData) (packets : List Packet) (front : List ℕ) (stuck : List Bool) (s : ℕ)
    → IsStuckSet session packets (set_of session front) stuck → s < symbols_of session → is_in stuck s ≡ false
    → IsNextStuck session packets front stuck s
next_stuck session packets front stuck s is below out =
    let begin = set_of session (front ++ s ∷ []) in
    let found = stuck_exists session packets begin in
    let next : List Bool = found.stuck in
    let part : IsSubset session (set_of session front) begin =
    subst (IsSubset session (set_of session front)) (sym (with_symbols-append session [] front (s ∷ [])))
    (subset-with session (set_of session front) (s ∷ [])) in
    let grown : IsSubset session stuck next =
    stuck-subset session packets (set_of session front) begin stuck next part is found.is_stuck in
    let first : is_in begin s ≡ true =
    added_is_in session [] (front ++ s ∷ []) (length front) s (omega (arith, length_push front s))
    (get_or_at front s [] 0 (length front) refl) below in
    let inside : is_in next s ≡ true =
    (leads-subset session packets begin found.is_stuck.numbers next found.is_stuck.leads).keeps s below first in
    record {
      next = next;
      is_stuck = found.is_stuck;
      fewer = fewer_outside session stuck next s grown below out inside;
    }

ended : (session : SessionData) (packets : List Packet) (numbers front : List ℕ) (stuck : List Bool)
    → AreInactive session packets numbers front → IsStuckSet session packets (set_of session front) stuck → HasAllSymbols session stuck
    → HasInactive session packets numbers
ended session packets numbers front stuck so_far is all = record {
  list = front;
  inactive = so_far;
  stuck = stuck;
  is_stuck = is;
  all = all;
}

pub best-first : (session : SessionData) (packets : List Packet) (numbers front : List ℕ) (stuck : List Bool)
    → IsStuckSet session packets (set_of session front) stuck → (best : IsBest session numbers stuck (symbols_of session))
    → IsFirstOutside session packets numbers front best.symbol
best-first session packets numbers front stuck is best = record {
  stuck = stuck;
  is_stuck = is;
  below = best.below;
  outside = best.outside;
  first = best.first;
}

inactive_after : (session : SessionData) (packets : List Packet) (numbers : List ℕ) (most : ℕ) (front : List ℕ) (stuck : List Bool)
    → AreInactive session packets numbers front → IsStuckSet session packets (set_of session front) stuck
    → outside_count (symbols_of session) stuck ≤ most → HasInactive session packets numbers
inactive_after session packets numbers zero front stuck so_far is few =
    elim (cases_best session numbers stuck (symbols_of session)) [
      | inl best ↦
          let next = next_stuck session packets front stuck best.symbol is best.below best.outside in
          let fewer = next.fewer in
          absurd (omega arith)
      | inr all ↦ ended session packets numbers front stuck so_far is all
    ]
inactive_after session packets numbers (suc most) front stuck so_far is few =
    elim (cases_best session numbers stuck (symbols_of session)) [
      | inl best ↦
          let next = next_stuck session packets front stuck best.symbol is best.below best.outside in
          let fewer = next.fewer in
          inactive_after session packets numbers most (front ++ best.symbol ∷ []) next.next
          (AreInactive-push session packets numbers front best.symbol so_far (best-first session packets numbers front stuck is best))
          next.is_stuck (omega arith)
      | inr all ↦ ended session packets numbers front stuck so_far is all
    ]

pub list_exists : (session : SessionData) (packets : List Packet) → (list : List ℕ) × IsInactiveList session packets list
list_exists session packets =
    let held = held_exists packets in
    let first : List ℕ = first_inactive session in
    let begun = stuck_exists session packets (set_of session first) in
    let found = inactive_after session packets held.numbers (outside_count (symbols_of session) begun.stuck) first begun.stuck
    (AreInactive-begin session packets held.numbers) begun.is_stuck (omega arith) in (
      found.list,
      record {
        numbers = held.numbers;
        held = held.held;
        inactive = found.inactive;
        stuck = found.stuck;
        is_stuck = found.is_stuck;
        all = found.all;
      },
    )

pub one_list : (session : SessionData) (packets : List Packet) → HasOneInactiveList session packets
one_list session packets =
    let found = list_exists session packets in
    record {
      list = found.0;
      is_inactive = found.1;
      only = λ other h. no_other_list session packets other found.0 h found.1;
    }
