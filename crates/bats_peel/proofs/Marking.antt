-- Sets of symbols with symbols marked, and how many symbols are outside.
use Rattle.std.proofs.Common.{ℕ, zero, suc, ◌≡◌, ◌<◌, ◌≤◌, ◌∙◌, inl, inr, cond, eqb, ◌||◌, Bool, true, false, List, [], ◌∷◌, ◌++◌, length, map, replicate, get_or, sym, ap, refl, subst, arith, ext_get_or}
use Rattle.std.specs.List.{list_any, range_with_len}
use Rattle.std.specs.Prelude.{slice_set}
use Rattle.std.proofs.lemmas.Bool.{cases_eq, cases_lt, both_ways, or_left, or_right, eq-eqb, ne_eqb, cond-true, cond-false}
use Rattle.std.proofs.lemmas.List.{get_or_past, get_or-set_same, get_or-set_other, length-set, length-replicate, get_or-replicate}
use Rattle.std.proofs.lemmas.List.Folds.{list_any_at, list_any-append}
use Rattle.std.proofs.lemmas.List.FromFn.{length-map-range_with_len, get_or-map-range_with_len}
use Rattle.bats_model.specs.Session.{SessionData, symbols_of}
use Rattle.bats_model.specs.Peeling.{is_in, with_symbols, set_of}
use Rattle.bats_peel.specs.steps.Search.{IsPart, marked}
use Rattle.bats_peel.proofs.SymbolSets.{outside_count}

-- ---- what a set has

pub length-marked : (set : List Bool) (symbols : List ℕ) → length (marked set symbols) ≡ length set
unfolding marked
length-marked set symbols = length-map-range_with_len (λ s. is_in set s || list_any (λ u. eqb u s) symbols) 0 (length set)

pub is_in-marked : (set : List Bool) (symbols : List ℕ) (s : ℕ) → s < length set
    → is_in (marked set symbols) s ≡ (is_in set s || list_any (λ u. eqb u s) symbols)
unfolding marked
is_in-marked set symbols s below =
    get_or-map-range_with_len (λ s. is_in set s || list_any (λ u. eqb u s) symbols) 0 (length set) s s false below (omega arith)

-- a set has no symbol past its end
pub past_end : (set : List Bool) (s : ℕ) → is_in set s ≡ true → s < length set
past_end set s h = elim (cases_lt s (length set)) [
  | inl below ↦ below
  | inr past ↦ absurd (both_ways (is_in set s) (get_or_past set s false past) h)
]

pub part-itself : (set : List Bool) → IsPart set set
part-itself set = record { keeps = λ s h. h }

pub part-then : (set middle larger : List Bool) → IsPart set middle → IsPart middle larger → IsPart set larger
part-then set middle larger p q = record { keeps = λ s h. q.keeps s (p.keeps s h) }

pub part-marked : (set : List Bool) (symbols : List ℕ) → IsPart set (marked set symbols)
part-marked set symbols = record {
  keeps = λ s h.
      is_in-marked set symbols s (past_end set s h) ∙ or_left (is_in set s) (list_any (λ u. eqb u s) symbols) h;
}

pub part-set : (set : List Bool) (s : ℕ) → IsPart set (slice_set set s true)
part-set set s = record {
  keeps = λ i h. elim (cases_eq i s) [
    | inl e ↦ subst (λ j. is_in (slice_set set s true) j ≡ true) (sym e)
        (get_or-set_same set s true false (subst (λ j. j < length set) e (past_end set i h)))
    | inr apart ↦ get_or-set_other set s i true false apart ∙ h
  ];
}

-- a marked symbol is in the set
pub marked_is_in : (set : List Bool) (symbols : List ℕ) (k : ℕ) → k < length symbols → get_or symbols k 0 < length set
    → is_in (marked set symbols) (get_or symbols k 0) ≡ true
marked_is_in set symbols k within below =
    is_in-marked set symbols (get_or symbols k 0) below
    ∙ or_right (is_in set (get_or symbols k 0)) (list_any (λ u. eqb u (get_or symbols k 0)) symbols)
    (list_any_at (λ u. eqb u (get_or symbols k 0)) symbols k 0 within (eq-eqb (get_or symbols k 0) (get_or symbols k 0) refl))

or_false : (x : Bool) → (x || false) ≡ x
or_false true = refl
or_false false = refl

-- a symbol that isn't among the marked ones is in the set where it was
pub marked-apart : (set : List Bool) (symbols : List ℕ) (s : ℕ) → list_any (λ u. eqb u s) symbols ≡ false
    → is_in (marked set symbols) s ≡ is_in set s
marked-apart set symbols s apart = elim (cases_lt s (length set)) [
  | inl below ↦ is_in-marked set symbols s below ∙ ap (λ b. is_in set s || b) apart ∙ or_false (is_in set s)
  | inr past ↦ get_or_past (marked set symbols) s false (omega (arith, length-marked set symbols)) ∙ sym (get_or_past set s false past)
]

-- ---- symbols marked one after another

or_assoc : (x y z : Bool) → ((x || y) || z) ≡ (x || (y || z))
or_assoc true y z = refl
or_assoc false y z = refl

or_swap : (x y z : Bool) → ((x || y) || z) ≡ ((x || z) || y)
or_swap true y z = refl
or_swap false true true = refl
or_swap false true false = refl
or_swap false false true = refl
or_swap false false false = refl

-- marked twice: at each symbol
twice : (set : List Bool) (symbols more : List ℕ) (i : ℕ) → i < length set
    → is_in (marked (marked set symbols) more) i ≡ ((is_in set i || list_any (λ u. eqb u i) symbols) || list_any (λ u. eqb u i) more)
twice set symbols more i below =
    is_in-marked (marked set symbols) more i (omega (arith, length-marked set symbols))
    ∙ ap (λ b. b || list_any (λ u. eqb u i) more) (is_in-marked set symbols i below)

pub marked-append : (set : List Bool) (symbols more : List ℕ) → marked set (symbols ++ more) ≡ marked (marked set symbols) more
marked-append set symbols more =
    ext_get_or false (marked set (symbols ++ more)) (marked (marked set symbols) more)
    (length-marked set (symbols ++ more) ∙ sym (length-marked set symbols) ∙ sym (length-marked (marked set symbols) more)) (λ i within.
    let below : i < length set = omega (arith, length-marked set (symbols ++ more)) in
    is_in-marked set (symbols ++ more) i below
    ∙ ap (λ b. is_in set i || b) (list_any-append (λ u. eqb u i) symbols more)
    ∙ sym (or_assoc (is_in set i) (list_any (λ u. eqb u i) symbols) (list_any (λ u. eqb u i) more))
    ∙ sym (twice set symbols more i below))

pub marked-swap : (set : List Bool) (symbols more : List ℕ) → marked (marked set symbols) more ≡ marked (marked set more) symbols
marked-swap set symbols more =
    ext_get_or false (marked (marked set symbols) more) (marked (marked set more) symbols)
    (length-marked (marked set symbols) more ∙ length-marked set symbols
    ∙ sym (length-marked set more) ∙ sym (length-marked (marked set more) symbols)) (λ i within.
    let below : i < length set = omega (arith, length-marked (marked set symbols) more, length-marked set symbols) in
    twice set symbols more i below
    ∙ or_swap (is_in set i) (list_any (λ u. eqb u i) symbols) (list_any (λ u. eqb u i) more)
    ∙ sym (twice set more symbols i below))

pub marked-none : (set : List Bool) → marked set [] ≡ set
marked-none set = ext_get_or false (marked set []) set (length-marked set [])
    (λ i within. is_in-marked set [] i (omega (arith, length-marked set [])) ∙ or_false (is_in set i))

pub marked-one : (set : List Bool) (s : ℕ) → marked set (s ∷ []) ≡ slice_set set s true
marked-one set s = ext_get_or false (marked set (s ∷ [])) (slice_set set s true)
    (length-marked set (s ∷ []) ∙ sym (length-set set s true)) (λ i within.
    let below : i < length set = omega (arith, length-marked set (s ∷ [])) in
    is_in-marked set (s ∷ []) i below ∙ elim (cases_eq s i) [
      | inl e ↦ or_right (is_in set i) (eqb s i || false) (or_left (eqb s i) false (eq-eqb s i e))
          ∙ sym (subst (λ j. get_or (slice_set set s true) j false ≡ true) e (get_or-set_same set s true false (omega (arith, e))))
      | inr apart ↦ ap (λ b. is_in set i || (b || false)) (ne_eqb s i apart) ∙ or_false (is_in set i)
          ∙ sym (get_or-set_other set s i true false (λ e. apart (sym e)))
    ])

pub marked-push : (set : List Bool) (symbols : List ℕ) (s : ℕ) → marked set (symbols ++ s ∷ []) ≡ slice_set (marked set symbols) s true
marked-push set symbols s = marked-append set symbols (s ∷ []) ∙ marked-one (marked set symbols) s

-- ---- sets of a session

pub marked-is : (session : SessionData) (set : List Bool) (symbols : List ℕ) → length set ≡ symbols_of session
    → marked set symbols ≡ with_symbols session set symbols
unfolding marked with_symbols
marked-is session set symbols size =
    ap (λ n. map (λ s. is_in set s || list_any (λ u. eqb u s) symbols) (range_with_len 0 n)) size

-- the set that has no symbol
abbrev pub blank : SessionData → List Bool
blank session = replicate (symbols_of session) false

pub set_of-marked : (session : SessionData) (symbols : List ℕ) → marked (blank session) symbols ≡ set_of session symbols
unfolding with_symbols
set_of-marked session symbols =
    let size : length (blank session) ≡ symbols_of session = length-replicate (symbols_of session) false in
    let has : ℕ → Bool = λ s. is_in [] s || list_any (λ u. eqb u s) symbols in
    ext_get_or false (marked (blank session) symbols) (set_of session symbols)
    (length-marked (blank session) symbols ∙ size ∙ sym (length-map-range_with_len has 0 (symbols_of session))) (λ i within.
    let below : i < symbols_of session = omega (arith, length-marked (blank session) symbols, size) in
    is_in-marked (blank session) symbols i (omega (arith, size, below))
    ∙ ap (λ b. b || list_any (λ u. eqb u i) symbols) (get_or-replicate (symbols_of session) i false false below)
    ∙ sym (get_or-map-range_with_len has 0 (symbols_of session) i i false below (omega arith)))

-- ---- how many symbols are outside

-- 1 for a symbol that is outside
abbrev pub miss : Bool → ℕ
miss inside = cond inside 0 1

miss-true : (b : Bool) → b ≡ true → miss b ≡ 0
miss-true b e = cond-true {A = ℕ} b 0 1 e

miss-false : (b : Bool) → b ≡ false → miss b ≡ 1
miss-false b e = cond-false {A = ℕ} b 0 1 e

one_less : (b c : Bool) → (b ≡ true → c ≡ true) → miss c ≤ miss b
one_less true true h = omega arith
one_less true false h = absurd (both_ways false refl (h refl))
one_less false true h = omega arith
one_less false false h = omega arith

pub outside-le : (n : ℕ) (set larger : List Bool) → IsPart set larger → outside_count n larger ≤ outside_count n set
outside-le zero set larger part = omega arith
outside-le (suc n) set larger part =
    let rest = outside-le n set larger part in
    let here = one_less (is_in set n) (is_in larger n) (part.keeps n) in
    omega arith

pub outside-less : (n : ℕ) (set larger : List Bool) (s : ℕ) → IsPart set larger → s < n → is_in set s ≡ false → is_in larger s ≡ true
    → outside_count n larger < outside_count n set
outside-less zero set larger s part below out inside = absurd (omega arith)
outside-less (suc n) set larger s part below out inside = elim (cases_eq s n) [
  | inl e ↦
      omega (
        arith,
        outside-le n set larger part,
        miss-false (is_in set n) (subst (λ j. is_in set j ≡ false) e out),
        miss-true (is_in larger n) (subst (λ j. is_in larger j ≡ true) e inside),
      )
  | inr apart ↦
      let rest = outside-less n set larger s part (omega arith) out inside in
      let here = one_less (is_in set n) (is_in larger n) (part.keeps n) in
      omega arith
]
