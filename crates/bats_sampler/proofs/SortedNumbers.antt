-- The drawn numbers, kept rising.
use Rattle.std.proofs.Common.{ℕ, ◌≡◌, ◌≢◌, ◌<◌, ◌≤◌, ◌+◌, ◌-◌, subst, List, [], ◌∷◌, ◌++◌, length, get_or, not, ap, ◌∙◌, arith, ⊎_elim, eqb}
use Rattle.std.specs.List.{AllPairs, insert, list_any, range_with_len}
use Rattle.std.specs.List.Sorted.{IsStrictlyIncreasing, IsPermutation}
use Rattle.std.proofs.lemmas.Bool.{cases_lt, cases_eq}
use Rattle.std.proofs.lemmas.List.Kept.{AllPairs-from_increasing}
use Rattle.std.proofs.lemmas.List.Elements.{filter_agree}
use Rattle.std.proofs.lemmas.List.Edits.{length-insert, get_or-insert_below, get_or-insert_at, get_or-insert_above}
use Rattle.std.proofs.lemmas.List.Sorted.{IsPermutation-refl, IsPermutation-insert, IsPermutation-push_more, list_any-IsPermutation}
use Rattle.bats_model.specs.Batch.{unchosen}
use Rattle.bats_sampler.specs.Contributors.{Parts, AreSorted}
use Rattle.bats_sampler.proofs.Unchosen.{unchosen-at}

pub distinct-from_rising : (xs : List ℕ) → IsStrictlyIncreasing xs → AllPairs (λ a b. a ≢ b) xs
distinct-from_rising xs up i j d lt l e =
    let below = AllPairs-from_increasing xs up i j d lt l in absurd (omega arith)

-- where the number at i is above n, all after it are
pub Parts-here : (xs : List ℕ) (i n : ℕ) → IsStrictlyIncreasing xs → i ≤ length xs
    → ((k : ℕ) → k < i → get_or xs k 0 < n) → n < get_or xs i 0 → Parts xs i n
Parts-here xs i n up within low high = record {
  within = within;
  below = low;
  above = λ k le lt. ⊎_elim (λ (e : i ≡ k). rw (← e) high)
      (λ (e : i ≡ k → ⊥). ⊎_elim (λ (l : i < k). let next = AllPairs-from_increasing xs up i k 0 l lt in omega arith)
      (λ (l : k ≤ i). absurd (e (omega arith))) (cases_lt i k)) (cases_eq i k);
}

-- a number goes in where it parts the others
rising-insert : (xs : List ℕ) (i y : ℕ) → IsStrictlyIncreasing xs → Parts xs i y → IsStrictlyIncreasing (insert xs i y)
rising-insert xs i y up parts k lt =
    let long = length-insert xs i y parts.within in
    let within = parts.within in
    ⊎_elim
    (λ (l : k + 1 < i).
    let a = get_or-insert_below xs i y 0 k (omega arith) within in
    let b = get_or-insert_below xs i y 0 (k + 1) l within in
    let u = up k (omega arith) in
    omega arith)
    (λ (l : i ≤ k + 1). ⊎_elim
    (λ (e : k + 1 ≡ i).
    let a = get_or-insert_below xs i y 0 k (omega arith) within in
    let b : get_or (insert xs i y) (k + 1) 0 ≡ y = rw e (get_or-insert_at xs i y 0 within) in
    let u = parts.below k (omega arith) in
    omega arith)
    (λ (e : k + 1 ≡ i → ⊥). ⊎_elim
    (λ (f : k ≡ i).
    let a : get_or (insert xs i y) k 0 ≡ y = rw f (get_or-insert_at xs i y 0 within) in
    let b = get_or-insert_above xs i y 0 k (omega arith) within in
    let u = parts.above k (omega arith) (omega arith) in
    omega arith)
    (λ (f : k ≡ i → ⊥).
    let j : ℕ = k - 1 in
    let back : j + 1 ≡ k = omega arith in
    let a : get_or (insert xs i y) k 0 ≡ get_or xs j 0 =
    subst (λ (m : ℕ). get_or (insert xs i y) m 0 ≡ get_or xs j 0) back
    (get_or-insert_above xs i y 0 j (omega arith) within) in
    let b = get_or-insert_above xs i y 0 k (omega arith) within in
    let u : get_or xs j 0 < get_or xs k 0 =
    subst (λ (m : ℕ). get_or xs j 0 < get_or xs m 0) back (up j (omega arith)) in
    omega arith)
    (cases_eq k i))
    (cases_eq (k + 1) i))
    (cases_lt (k + 1) i)

pub AreSorted-none : AreSorted [] []
AreSorted-none = record { rises = λ k lt. absurd (omega arith); same = IsPermutation-refl [] }

-- one number more
pub AreSorted-more : (drawn sorted : List ℕ) (i y : ℕ) → AreSorted drawn sorted → Parts sorted i y
    → AreSorted (drawn ++ y ∷ []) (insert sorted i y)
AreSorted-more drawn sorted i y are parts = record {
  rises = rising-insert sorted i y are.rises parts;
  same = IsPermutation-push_more drawn sorted (insert sorted i y) y are.same (IsPermutation-insert sorted i y);
}

unchosen-sorted : (n : ℕ) (drawn sorted : List ℕ) → IsPermutation drawn sorted → unchosen n drawn ≡ unchosen n sorted
unfolding unchosen
unchosen-sorted n drawn sorted same =
    filter_agree (λ s. not (list_any (λ x. eqb x s) drawn)) (λ s. not (list_any (λ x. eqb x s) sorted))
    (λ s. ap not (list_any-IsPermutation (λ x. eqb x s) drawn sorted same)) (range_with_len 0 n)

-- the number at a place among those that are not drawn
pub unchosen-of_sorted : (n place i : ℕ) (drawn sorted : List ℕ) → AreSorted drawn sorted
    → Parts sorted i (place + i) → place + i < n → get_or (unchosen n drawn) place 0 ≡ place + i
unchosen-of_sorted n place i drawn sorted are parts lt =
    ap (λ xs. get_or xs place 0) (unchosen-sorted n drawn sorted are.same)
    ∙ unchosen-at n place i sorted (distinct-from_rising sorted are.rises) parts lt
