-- Counts of the batches that each symbol is in.
use Rattle.std.proofs.Common.{ℕ, ◌≡◌, ◌≢◌, ◌<◌, ◌≤◌, ◌+◌, ◌∙◌, inl, inr, cond, eqb, ◌||◌, Bool, true, false, List, [], length, take, get_or, sym, ap, refl, subst, arith, AllPairs}
use Rattle.std.specs.List.{list_any}
use Rattle.std.specs.Prelude.{slice_set}
use Rattle.std.proofs.lemmas.Bool.{cases_eq, eq-eqb, ne_eqb, or_right, cond-true, cond-false}
use Rattle.std.proofs.lemmas.List.{get_or-take, get_or_default, get_or-set_same, get_or-set_other, length-take-le}
use Rattle.std.proofs.lemmas.List.Folds.{list_any_none, list_any_more}
use Rattle.std.proofs.lemmas.List.Sums.{sum_by_more, count_by-le-length}
use Rattle.bats_peel.specs.declared.local.Local.{Local}
use Rattle.bats_peel.specs.steps.Search.{local_count}

-- 1 for what is there
abbrev pub hit : Bool → ℕ
hit there = cond there 1 0

hit-true : (b : Bool) → b ≡ true → hit b ≡ 1
hit-true b e = cond-true {A = ℕ} b 1 0 e

hit-false : (b : Bool) → b ≡ false → hit b ≡ 0
hit-false b e = cond-false {A = ℕ} b 1 0 e

-- each symbol's count is one more where it is among these
abbrev pub AreCounted : List ℕ → List ℕ → List ℕ → Type 0
AreCounted old now symbols = (s : ℕ) → s < length old
    → get_or now s 0 ≡ get_or old s 0 + hit (list_any (λ u. eqb u s) symbols)

or_false : (x : Bool) → (x || false) ≡ x
or_false true = refl
or_false false = refl

pub counted-none : (old : List ℕ) → AreCounted old old []
counted-none old s below = omega arith

-- of distinct symbols, this one isn't among those before it
fresh : (symbols : List ℕ) (k : ℕ) → AllPairs (λ a b. a ≢ b) symbols → k < length symbols
    → list_any (λ u. eqb u (get_or symbols k 0)) (take k symbols) ≡ false
fresh symbols k distinct within =
    list_any_none (λ u. eqb u (get_or symbols k 0)) (take k symbols) (λ j d short.
    let low : j < k = omega (arith, length-take-le k symbols (omega arith)) in
    ne_eqb (get_or (take k symbols) j d) (get_or symbols k 0) (λ e.
    distinct j k 0 low within (distinct_at j d low e)))
  where
    distinct_at : (j d : ℕ) → j < k → get_or (take k symbols) j d ≡ get_or symbols k 0 → get_or symbols j 0 ≡ get_or symbols k 0
    distinct_at j d low e =
        sym (get_or-take k symbols j 0 low)
        ∙ get_or_default (take k symbols) j 0 d (omega (arith, length-take-le k symbols (omega arith))) ∙ e

-- its count so far is as it was
pub counted-fresh : (old now symbols : List ℕ) (k : ℕ) → AllPairs (λ a b. a ≢ b) symbols → k < length symbols
    → get_or symbols k 0 < length old → AreCounted old now (take k symbols)
    → get_or now (get_or symbols k 0) 0 ≡ get_or old (get_or symbols k 0) 0
counted-fresh old now symbols k distinct within below counted =
    let s : ℕ = get_or symbols k 0 in
    omega (
      arith,
      counted s below,
      hit-false (list_any (λ u. eqb u s) (take k symbols)) (fresh symbols k distinct within),
    )

pub counted-next : (old now symbols : List ℕ) (k : ℕ) → length now ≡ length old → AllPairs (λ a b. a ≢ b) symbols → k < length symbols
    → get_or symbols k 0 < length old → AreCounted old now (take k symbols)
    → AreCounted old (slice_set now (get_or symbols k 0) (get_or now (get_or symbols k 0) 0 + 1)) (take (k + 1) symbols)
counted-next old now symbols k size distinct within below counted s low =
    let at : ℕ = get_or symbols k 0 in
    let after : List ℕ = slice_set now at (get_or now at 0 + 1) in
    let more = list_any_more (λ u. eqb u s) symbols k 0 within in
    elim (cases_eq s at) [
      | inl e ↦
          let any : list_any (λ u. eqb u s) (take (k + 1) symbols) ≡ true =
          more ∙ or_right (list_any (λ u. eqb u s) (take k symbols)) (eqb at s) (eq-eqb at s (sym e)) in
          let here : get_or after s 0 ≡ get_or now at 0 + 1 =
          subst (λ j. get_or after j 0 ≡ get_or now at 0 + 1) (sym e) (get_or-set_same now at (get_or now at 0 + 1) 0 (omega (arith, size, below))) in
          let was : get_or old s 0 ≡ get_or old at 0 = ap (λ j. get_or old j 0) e in
          omega (
            arith,
            here,
            was,
            counted-fresh old now symbols k distinct within below counted,
            hit-true (list_any (λ u. eqb u s) (take (k + 1) symbols)) any,
          )
      | inr apart ↦
          let any : list_any (λ u. eqb u s) (take (k + 1) symbols) ≡ list_any (λ u. eqb u s) (take k symbols) =
          more ∙ ap (λ b. list_any (λ u. eqb u s) (take k symbols) || b) (ne_eqb at s (λ e. apart (sym e)))
          ∙ or_false (list_any (λ u. eqb u s) (take k symbols)) in
          get_or-set_other now at s (get_or now at 0 + 1) 0 apart ∙ counted s low
          ∙ ap (λ b. get_or old s 0 + hit b) (sym any)
    ]

-- the same where the place and the value are said to be these
pub counted-write : (old now symbols : List ℕ) (k at value : ℕ) → length now ≡ length old → AllPairs (λ a b. a ≢ b) symbols
    → k < length symbols → get_or symbols k 0 < length old → at ≡ get_or symbols k 0 → value ≡ get_or now at 0 + 1
    → AreCounted old now (take k symbols) → AreCounted old (slice_set now at value) (take (k + 1) symbols)
counted-write old now symbols k at value size distinct within below place is counted s low =
    let next : AreCounted old (slice_set now (get_or symbols k 0) (get_or now (get_or symbols k 0) 0 + 1)) (take (k + 1) symbols) =
    counted-next old now symbols k size distinct within below counted in
    let same : slice_set now at value ≡ slice_set now (get_or symbols k 0) (get_or now (get_or symbols k 0) 0 + 1) =
    ap (λ v. slice_set now at v) is ∙ ap (λ a. slice_set now a (get_or now a 0 + 1)) place in
    ap (λ (counts : List ℕ). get_or counts s 0) same ∙ next s low

-- ---- over locals

pub local_count-more : (locals : List Local) (i : ℕ) (d : Local) (s : ℕ) → i < length locals
    → local_count (take (i + 1) locals) s
    ≡ local_count (take i locals) s + hit (list_any (λ u. eqb u s) (get_or locals i d).batch.contributors)
local_count-more locals i d s within =
    sum_by_more (λ (local : Local). hit (list_any (λ u. eqb u s) local.batch.contributors)) locals i d within

pub local_count-le : (locals : List Local) (i s : ℕ) → i ≤ length locals → local_count (take i locals) s ≤ i
local_count-le locals i s within =
    omega (
      arith,
      count_by-le-length (λ (local : Local). list_any (λ u. eqb u s) local.batch.contributors) (take i locals),
      length-take-le i locals within,
    )
