-- Sets of symbols: what they have once symbols are added, when two are one, and how many symbols are outside.
use Rattle.std.proofs.Common.{ℕ, zero, suc, ◌≡◌, ◌<◌, ◌≤◌, ◌+◌, ◌∙◌, ◌⊎◌, inl, inr, cond, eqb, ◌||◌, Bool, true, false, List, [], ◌∷◌, ◌++◌, length, get_or, sym, ap, refl, subst, arith, ext_get_or}
use Rattle.std.specs.List.{list_any}
use Rattle.std.specs.Prelude.{slice_set}
use Rattle.std.proofs.lemmas.Bool.{cases_eq, cases_Bool, both_ways, or_cases, or_left, or_right, eq-eqb, ne_eqb, eqb-true, cond-true, cond-false, false_from_ne_true}
use Rattle.std.proofs.lemmas.List.{get_or_default, get_or-set_same, get_or-set_other, length-set}
use Rattle.std.proofs.lemmas.List.Folds.{list_any_at, list_any-append, Any-from_list_any}
use Rattle.std.proofs.lemmas.List.FromFn.{length-map-range_with_len, get_or-map-range_with_len}
use Rattle.bats_model.specs.Session.{SessionData, symbols_of}
use Rattle.bats_model.specs.Peeling.{is_in, with_symbols}
use Rattle.bats_peel.specs.OneSet.{IsSubset}

-- ---- what a set has

pub length-with_symbols : (session : SessionData) (set : List Bool) (symbols : List ℕ)
    → length (with_symbols session set symbols) ≡ symbols_of session
unfolding with_symbols
length-with_symbols session set symbols =
    length-map-range_with_len (λ s. is_in set s || list_any (λ u. eqb u s) symbols) 0 (symbols_of session)

pub is_in-with : (session : SessionData) (set : List Bool) (symbols : List ℕ) (s : ℕ) → s < symbols_of session
    → is_in (with_symbols session set symbols) s ≡ (is_in set s || list_any (λ u. eqb u s) symbols)
unfolding with_symbols
is_in-with session set symbols s below =
    get_or-map-range_with_len (λ s. is_in set s || list_any (λ u. eqb u s) symbols) 0 (symbols_of session) s s false below (omega arith)

-- what was in the set is in it with the symbols
pub stays_in : (session : SessionData) (set : List Bool) (symbols : List ℕ) (s : ℕ) → s < symbols_of session
    → is_in set s ≡ true → is_in (with_symbols session set symbols) s ≡ true
stays_in session set symbols s below h =
    is_in-with session set symbols s below ∙ or_left (is_in set s) (list_any (λ u. eqb u s) symbols) h

-- and so is each of the symbols
pub added_is_in : (session : SessionData) (set : List Bool) (symbols : List ℕ) (k s : ℕ) → k < length symbols
    → get_or symbols k 0 ≡ s → s < symbols_of session → is_in (with_symbols session set symbols) s ≡ true
added_is_in session set symbols k s within at below =
    is_in-with session set symbols s below
    ∙ or_right (is_in set s) (list_any (λ u. eqb u s) symbols)
    (list_any_at (λ u. eqb u s) symbols k 0 within (eq-eqb (get_or symbols k 0) s at))

-- a place at which a symbol stands
pub found_at : (symbols : List ℕ) (s : ℕ) → list_any (λ u. eqb u s) symbols ≡ true → (k : ℕ) × (k < length symbols) × (get_or symbols k 0 ≡ s)
found_at symbols s h =
    let any = Any-from_list_any (λ u. eqb u s) symbols h in
    (any.0, any.2, get_or_default symbols any.0 0 any.1 any.2 ∙ any.3 ∙ eqb-true any.1 s any.4)

-- nothing else is
pub cases_in : (session : SessionData) (set : List Bool) (symbols : List ℕ) (s : ℕ) → s < symbols_of session
    → is_in (with_symbols session set symbols) s ≡ true
    → (is_in set s ≡ true) ⊎ ((k : ℕ) × (k < length symbols) × (get_or symbols k 0 ≡ s))
cases_in session set symbols s below h =
    elim (or_cases (is_in set s) (list_any (λ u. eqb u s) symbols) (sym (is_in-with session set symbols s below) ∙ h)) [
      | inl e ↦ inl e
      | inr e ↦ inr (found_at symbols s e)
    ]

-- ---- larger sets

pub subset-itself : (session : SessionData) (set : List Bool) → IsSubset session set set
subset-itself session set = record { keeps = λ s below h. h }

pub subset-then : (session : SessionData) (one other third : List Bool) → IsSubset session one other → IsSubset session other third
    → IsSubset session one third
subset-then session one other third p q = record { keeps = λ s below h. q.keeps s below (p.keeps s below h) }

pub subset-with : (session : SessionData) (set : List Bool) (symbols : List ℕ) → IsSubset session set (with_symbols session set symbols)
subset-with session set symbols = record { keeps = λ s below h. stays_in session set symbols s below h }

-- the symbols are added to larger sets
pub with-subset : (session : SessionData) (set larger : List Bool) (symbols : List ℕ) → IsSubset session set larger
    → IsSubset session (with_symbols session set symbols) (with_symbols session larger symbols)
with-subset session set larger symbols part = record {
  keeps = λ s below h. elim (cases_in session set symbols s below h) [
    | inl e ↦ stays_in session larger symbols s below (part.keeps s below e)
    | inr at ↦ added_is_in session larger symbols at.0 s at.1 at.2 below
  ];
}

-- a set that has the one set and the symbols has the set with them
pub with-within : (session : SessionData) (set larger other : List Bool) (symbols : List ℕ) → IsSubset session set larger
    → IsSubset session (with_symbols session other symbols) larger → IsSubset session (with_symbols session set symbols) larger
with-within session set larger other symbols part added = record {
  keeps = λ s below h. elim (cases_in session set symbols s below h) [
    | inl e ↦ part.keeps s below e
    | inr at ↦ added.keeps s below (added_is_in session other symbols at.0 s at.1 at.2 below)
  ];
}

-- sets that have the same symbols are one
pub same_sets : (session : SessionData) (one other : List Bool) → length one ≡ symbols_of session → length other ≡ symbols_of session
    → IsSubset session one other → IsSubset session other one → one ≡ other
same_sets session one other p q there back = ext_get_or false one other (p ∙ sym q) (λ i within.
    let below : i < symbols_of session = omega (arith, p) in
    elim (cases_Bool (is_in one i)) [
      | inl e ↦ e ∙ sym (there.keeps i below e)
      | inr e ↦ e ∙ sym (false_from_ne_true (is_in other i) (λ h. both_ways (is_in one i) e (back.keeps i below h)))
    ])

-- ---- symbols added one after another

or_assoc : (x y z : Bool) → ((x || y) || z) ≡ (x || (y || z))
or_assoc true y z = refl
or_assoc false y z = refl

pub with_symbols-append : (session : SessionData) (set : List Bool) (symbols more : List ℕ)
    → with_symbols session set (symbols ++ more) ≡ with_symbols session (with_symbols session set symbols) more
with_symbols-append session set symbols more =
    let first = with_symbols session set symbols in
    ext_get_or false (with_symbols session set (symbols ++ more)) (with_symbols session first more)
    (length-with_symbols session set (symbols ++ more) ∙ sym (length-with_symbols session first more)) (λ i within.
    let below : i < symbols_of session = omega (arith, length-with_symbols session set (symbols ++ more)) in
    is_in-with session set (symbols ++ more) i below
    ∙ ap (λ b. is_in set i || b) (list_any-append (λ u. eqb u i) symbols more)
    ∙ sym (or_assoc (is_in set i) (list_any (λ u. eqb u i) symbols) (list_any (λ u. eqb u i) more))
    ∙ ap (λ b. b || list_any (λ u. eqb u i) more) (sym (is_in-with session set symbols i below))
    ∙ sym (is_in-with session first more i below))

or_false : (x : Bool) → (x || false) ≡ x
or_false true = refl
or_false false = refl

-- no symbols are added to a set of the session's size
pub with_symbols-none : (session : SessionData) (set : List Bool) → length set ≡ symbols_of session → with_symbols session set [] ≡ set
with_symbols-none session set size = ext_get_or false (with_symbols session set []) set (length-with_symbols session set [] ∙ sym size)
    (λ i within. is_in-with session set [] i (omega (arith, length-with_symbols session set [])) ∙ or_false (is_in set i))

-- one symbol is added to it
pub with_symbols-one : (session : SessionData) (set : List Bool) (s : ℕ) → length set ≡ symbols_of session
    → with_symbols session set (s ∷ []) ≡ slice_set set s true
with_symbols-one session set s size = ext_get_or false (with_symbols session set (s ∷ [])) (slice_set set s true)
    (length-with_symbols session set (s ∷ []) ∙ sym size ∙ sym (length-set set s true)) (λ i within.
    let below : i < symbols_of session = omega (arith, length-with_symbols session set (s ∷ [])) in
    is_in-with session set (s ∷ []) i below ∙ elim (cases_eq s i) [
      | inl e ↦ or_right (is_in set i) (eqb s i || false) (or_left (eqb s i) false (eq-eqb s i e))
          ∙ sym (subst (λ j. get_or (slice_set set s true) j false ≡ true) e (get_or-set_same set s true false (omega (arith, e, size))))
      | inr apart ↦ ap (λ b. is_in set i || (b || false)) (ne_eqb s i apart) ∙ or_false (is_in set i)
          ∙ sym (get_or-set_other set s i true false (λ e. apart (sym e)))
    ])

-- a loop's step: one symbol more
pub with_symbols-push : (session : SessionData) (set : List Bool) (symbols : List ℕ) (s : ℕ)
    → with_symbols session set (symbols ++ s ∷ []) ≡ slice_set (with_symbols session set symbols) s true
with_symbols-push session set symbols s =
    with_symbols-append session set symbols (s ∷ [])
    ∙ with_symbols-one session (with_symbols session set symbols) s (length-with_symbols session set symbols)

-- ---- how many symbols are outside

-- the symbols below n that are outside a set
abbrev pub outside_count : ℕ → List Bool → ℕ
outside_count zero set = 0
outside_count (suc n) set = cond (is_in set n) 0 1 + outside_count n set

one_less : (b c : Bool) → (b ≡ true → c ≡ true) → cond c 0 1 ≤ cond b 0 1
one_less true true h = omega arith
one_less true false h = absurd (both_ways false refl (h refl))
one_less false true h = omega arith
one_less false false h = omega arith

outside_count-le : (n : ℕ) (set larger : List Bool) → ((s : ℕ) → s < n → is_in set s ≡ true → is_in larger s ≡ true)
    → outside_count n larger ≤ outside_count n set
outside_count-le zero set larger keeps = omega arith
outside_count-le (suc n) set larger keeps =
    let rest = outside_count-le n set larger (λ s below h. keeps s (omega arith) h) in
    let here = one_less (is_in set n) (is_in larger n) (keeps n (omega arith)) in
    omega arith

outside_count-less : (n : ℕ) (set larger : List Bool) (s : ℕ) → ((u : ℕ) → u < n → is_in set u ≡ true → is_in larger u ≡ true)
    → s < n → is_in set s ≡ false → is_in larger s ≡ true → outside_count n larger < outside_count n set
outside_count-less zero set larger s keeps below out inside = absurd (omega arith)
outside_count-less (suc n) set larger s keeps below out inside = elim (cases_eq s n) [
  | inl e ↦
      let rest = outside_count-le n set larger (λ u low h. keeps u (omega arith) h) in
      omega (
        arith,
        rest,
        cond-false {A = ℕ} (is_in set n) 0 1 (subst (λ j. is_in set j ≡ false) e out),
        cond-true {A = ℕ} (is_in larger n) 0 1 (subst (λ j. is_in larger j ≡ true) e inside),
      )
  | inr apart ↦
      let rest = outside_count-less n set larger s (λ u low h. keeps u (omega arith) h) (omega arith) out inside in
      let here = one_less (is_in set n) (is_in larger n) (keeps n (omega arith)) in
      omega arith
]

-- fewer are outside a larger set that has one symbol more
pub fewer_outside : (session : SessionData) (set larger : List Bool) (s : ℕ) → IsSubset session set larger → s < symbols_of session
    → is_in set s ≡ false → is_in larger s ≡ true
    → outside_count (symbols_of session) larger < outside_count (symbols_of session) set
fewer_outside session set larger s part below out inside =
    outside_count-less (symbols_of session) set larger s part.keeps below out inside
