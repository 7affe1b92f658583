-- Fewer equations than unknowns have a solution that isn't all zeros, where each sum is to be 0.
use Rattle.std.proofs.Common.{ℕ, zero, suc, ◌≡◌, ◌≢◌, ◌<◌, ◌+◌, ◌∙◌, ◌⊎◌, inl, inr, cond, eqb, List, [], ◌∷◌, ◌++◌, length, get_or, sym, ap, refl, subst, arith, length-append, lit<}
use Rattle.std.specs.Prelude.{All, map}
use Rattle.std.proofs.lemmas.Bool.{cases_eq, eq-eqb, ne_eqb, cond-true, cond-false}
use Rattle.std.proofs.lemmas.List.{length-map, get_or-map, get_or_append_left, get_or-append-add}
use Rattle.std.proofs.lemmas.List.Elements.{All-nil, All-cons, All-head, All-tail, All-append, All-map, All-weaker}
use Rattle.gf_core.specs.Field.{gf_add, gf_mul, gf_sum}
use Rattle.gf_core.proofs.AddLemmas.{gf_add-lt, zero-gf_add, gf_add_self, gf_add-eq-zero}
use Rattle.gf_core.proofs.SumLemmas.{gf_sum-suc, gf_sum-lt, gf_sum-congruence, gf_sum-zeros, gf_sum-gf_add}
use Rattle.gf_core.proofs.ProductLemmas.{gf_mul-lt, gf_mul-zero, zero-gf_mul, one-gf_mul, gf_mul_assoc, gf_mul-gf_sum, gf_mul-gf_add_left}
use Rattle.gf_core.proofs.InverseLemmas.{inverse_exists}
use Rattle.gf_core.specs.Bytes.{AreBytes}
use Rattle.gf_core.proofs.RowLemmas.{byte_at}
use Rattle.gf_rows.specs.Equations.{AreValues}

-- the first entries are bytes
abbrev pub HasByteEntries : ℕ → (ℕ → ℕ) → Type 0
HasByteEntries count entries = (j : ℕ) → j < count → entries j < 256

-- the sum of the first entries, each times the value of its unknown
abbrev pub product_sum : ℕ → (ℕ → ℕ) → (ℕ → ℕ) → ℕ
product_sum count entries values = gf_sum count (λ j. gf_mul (entries j) (values j))

-- values of bytes for this many unknowns, not all of them 0, at which each equation's sum is 0
pub record NonzeroSolution (count : ℕ) (equations : List (ℕ → ℕ)) : Type 0 where
  pub values : ℕ → ℕ
  pub bytes : AreValues count values
  pub place : ℕ
  pub within : place < count
  pub nonzero : values place ≢ 0
  pub solves : All (λ entries. product_sum count entries values ≡ 0) equations

-- ---- one more unknown, the last

-- these values, and another one for the last unknown
abbrev with_last : ℕ → (ℕ → ℕ) → ℕ → ℕ → ℕ
with_last n values last j = cond (eqb j n) last (values j)

last_value : (n : ℕ) (values : ℕ → ℕ) (last : ℕ) → with_last n values last n ≡ last
last_value n values last = cond-true (eqb n n) last (values n) (eq-eqb n n refl)

earlier_value : (n : ℕ) (values : ℕ → ℕ) (last j : ℕ) → j < n → with_last n values last j ≡ values j
earlier_value n values last j h = cond-false (eqb j n) last (values j) (ne_eqb j n (λ e. absurd (omega arith)))

with_last-lt : (n : ℕ) (values : ℕ → ℕ) (last : ℕ) → AreValues n values → last < 256 → AreValues (suc n) (with_last n values last)
with_last-lt n values last below p j h =
    elim (cases_eq j n) [
      | inl e ↦ subst (λ x. x < 256) (sym (ap (with_last n values last) e ∙ last_value n values last)) p
      | inr ne ↦ let within : j < n = omega arith in subst (λ x. x < 256) (sym (earlier_value n values last j within)) (below j within)
    ]

-- the sum with the last term apart
product_sum_with_last : (n : ℕ) (entries values : ℕ → ℕ) (last : ℕ) → product_sum (suc n) entries (with_last n values last) ≡ gf_add (product_sum n entries values) (gf_mul (entries n) last)
product_sum_with_last n entries values last =
    gf_sum-suc n (λ j. gf_mul (entries j) (with_last n values last j)) ∙
    (ap (λ s. gf_add s (gf_mul (entries n) (with_last n values last n)))
    (gf_sum-congruence n (λ j. gf_mul (entries j) (with_last n values last j)) (λ j. gf_mul (entries j) (values j)) (λ j h. ap (gf_mul (entries j)) (earlier_value n values last j h))) ∙
    ap (λ x. gf_add (product_sum n entries values) (gf_mul (entries n) x)) (last_value n values last))

-- ---- no equation has the last unknown

free_last : (n : ℕ) (equations : List (ℕ → ℕ)) → All (λ entries. entries n ≡ 0) equations → NonzeroSolution (suc n) equations
free_last n equations none = record {
  values = with_last n (λ j. 0) 1;
  bytes = with_last-lt n (λ j. 0) 1 (λ j h. lit< tt) (lit< tt);
  place = n;
  within = omega arith;
  nonzero = λ e. absurd (omega (arith, last_value n (λ j. 0) 1, e));
  solves =
      All-weaker (λ entries. entries n ≡ 0) (λ entries. product_sum (suc n) entries (with_last n (λ j. 0) 1) ≡ 0)
      (λ entries h.
      product_sum_with_last n entries (λ j. 0) 1 ∙
      (ap (λ s. gf_add s (gf_mul (entries n) 1)) (gf_sum-zeros n (λ j. gf_mul (entries j) 0) (λ j q. gf_mul-zero (entries j))) ∙
      (ap (λ x. gf_add 0 (gf_mul x 1)) h ∙ (ap (gf_add 0) (zero-gf_mul 1) ∙ zero-gf_add 0)))) equations none;
}

-- ---- an equation has it

-- an equation that has the last unknown, and those before and after it
record Pivot (n : ℕ) (equations : List (ℕ → ℕ)) : Type 0 where
  front : List (ℕ → ℕ)
  entries : ℕ → ℕ
  back : List (ℕ → ℕ)
  stands : equations ≡ front ++ entries ∷ back
  nonzero : entries n ≢ 0

cases_pivot : (n : ℕ) (equations : List (ℕ → ℕ)) → All (λ entries. entries n ≡ 0) equations ⊎ Pivot n equations
cases_pivot n [] = inl (All-nil (λ entries. entries n ≡ 0))
cases_pivot n (first ∷ rest) =
    elim (cases_eq (first n) 0) [
      | inl e ↦
          elim (cases_pivot n rest) [
            | inl none ↦ inl (All-cons (λ entries. entries n ≡ 0) first rest e none)
            | inr pivot ↦ inr (record { front = first ∷ pivot.front; entries = pivot.entries; back = pivot.back; stands = ap (λ rest. first ∷ rest) pivot.stands; nonzero = pivot.nonzero })
          ]
      | inr ne ↦ inr (record { front = []; entries = first; back = rest; stands = refl; nonzero = ne })
    ]

-- the equation with a multiple of another added
abbrev with_multiple : (ℕ → ℕ) → ℕ → (ℕ → ℕ) → ℕ → ℕ
with_multiple entries factor other j = gf_add (entries j) (gf_mul factor (other j))

product_sum_with_multiple : (n : ℕ) (entries : ℕ → ℕ) (factor : ℕ) (other values : ℕ → ℕ) → HasByteEntries n other → AreValues n values
    → product_sum n (with_multiple entries factor other) values ≡ gf_add (product_sum n entries values) (gf_mul factor (product_sum n other values))
product_sum_with_multiple n entries factor other values bytes below =
    gf_sum-congruence n (λ j. gf_mul (with_multiple entries factor other j) (values j)) (λ j. gf_add (gf_mul (entries j) (values j)) (gf_mul factor (gf_mul (other j) (values j))))
    (λ j h.
    gf_mul-gf_add_left (entries j) (gf_mul factor (other j)) (values j) ∙
    ap (gf_add (gf_mul (entries j) (values j))) (gf_mul_assoc factor (other j) (values j) (bytes j h) (below j h))) ∙
    (gf_sum-gf_add n (λ j. gf_mul (entries j) (values j)) (λ j. gf_mul factor (gf_mul (other j) (values j))) ∙
    ap (gf_add (product_sum n entries values)) (sym (gf_mul-gf_sum factor n (λ j. gf_mul (other j) (values j)))))

-- these values, and the last unknown's value that solves the pivot's equation
abbrev with_solved : ℕ → (ℕ → ℕ) → (ℕ → ℕ) → ℕ → ℕ → ℕ
with_solved n pivot values inverse = with_last n values (gf_mul inverse (product_sum n pivot values))

pivot_solved : (n : ℕ) (pivot values : ℕ → ℕ) (inverse : ℕ) → inverse < 256 → HasByteEntries (suc n) pivot → AreValues n values → gf_mul (pivot n) inverse ≡ 1
    → product_sum (suc n) pivot (with_solved n pivot values inverse) ≡ 0
pivot_solved n pivot values inverse byte bytes below one =
    let s = product_sum n pivot values in
    let s_byte : s < 256 = gf_sum-lt n (λ j. gf_mul (pivot j) (values j)) (λ j h. gf_mul-lt (pivot j) (values j) (below j h)) in
    product_sum_with_last n pivot values (gf_mul inverse s) ∙
    (ap (gf_add s) (sym (gf_mul_assoc (pivot n) inverse s byte s_byte) ∙ (ap (λ x. gf_mul x s) one ∙ one-gf_mul s)) ∙ gf_add_self s)

-- the equation with the multiple of the pivot added that takes the last unknown away
abbrev cleared : ℕ → (ℕ → ℕ) → ℕ → (ℕ → ℕ) → ℕ → ℕ
cleared n pivot inverse entries = with_multiple entries (gf_mul (entries n) inverse) pivot

cleared-lt : (n : ℕ) (pivot : ℕ → ℕ) (inverse : ℕ) (entries : ℕ → ℕ) → HasByteEntries (suc n) pivot → HasByteEntries (suc n) entries → HasByteEntries n (cleared n pivot inverse entries)
cleared-lt n pivot inverse entries p q j h =
    gf_add-lt (entries j) (gf_mul (gf_mul (entries n) inverse) (pivot j)) (q j (omega arith)) (gf_mul-lt (gf_mul (entries n) inverse) (pivot j) (p j (omega arith)))

-- they solve each equation that the other values solve when it is cleared
other_solved : (n : ℕ) (pivot values : ℕ → ℕ) (inverse : ℕ) (entries : ℕ → ℕ) → inverse < 256 → HasByteEntries (suc n) pivot → AreValues n values
    → product_sum n (cleared n pivot inverse entries) values ≡ 0
    → product_sum (suc n) entries (with_solved n pivot values inverse) ≡ 0
other_solved n pivot values inverse entries byte bytes below solved =
    let s = product_sum n pivot values in
    let s_byte : s < 256 = gf_sum-lt n (λ j. gf_mul (pivot j) (values j)) (λ j h. gf_mul-lt (pivot j) (values j) (below j h)) in
    let same : product_sum n entries values ≡ gf_mul (gf_mul (entries n) inverse) s =
    gf_add-eq-zero (product_sum n entries values) (gf_mul (gf_mul (entries n) inverse) s)
    (sym (product_sum_with_multiple n entries (gf_mul (entries n) inverse) pivot values (λ j h. bytes j (omega arith)) below) ∙ solved) in
    product_sum_with_last n entries values (gf_mul inverse s) ∙
    (ap (λ x. gf_add x (gf_mul (entries n) (gf_mul inverse s))) (same ∙ gf_mul_assoc (entries n) inverse s byte s_byte) ∙ gf_add_self (gf_mul (entries n) (gf_mul inverse s)))

-- ---- both

pub All-front : {X : Type 0} (P : X → Type 0) (xs ys : List X) → All P (xs ++ ys) → All P xs
All-front P xs ys all = λ k d h. subst P (get_or_append_left xs ys d k h) (all k d (omega (arith, length-append xs ys)))

pub All-back : {X : Type 0} (P : X → Type 0) (xs ys : List X) → All P (xs ++ ys) → All P ys
All-back P xs ys all = λ k d h. subst P (get_or-append-add xs ys k d) (all (length xs + k) d (omega (arith, length-append xs ys)))

pub All-from_map : {X Y : Type 0} (P : Y → Type 0) (f : X → Y) (xs : List X) → All P (map f xs) → All (λ x. P (f x)) xs
All-from_map P f xs all = λ k d h. subst P (get_or-map f xs k d (f d) h) (all k (f d) (rw (length-map xs f) h))

-- a solution of the cleared equations gives one of all
solution_from_cleared : (n : ℕ) (front : List (ℕ → ℕ)) (pivot : ℕ → ℕ) (back : List (ℕ → ℕ)) (inverse : ℕ) → inverse < 256 → HasByteEntries (suc n) pivot → gf_mul (pivot n) inverse ≡ 1
    → NonzeroSolution n (map (cleared n pivot inverse) (front ++ back)) → NonzeroSolution (suc n) (front ++ pivot ∷ back)
solution_from_cleared n front pivot back inverse byte bytes one below =
    let Solved = λ (entries : ℕ → ℕ). product_sum (suc n) entries (with_solved n pivot below.values inverse) ≡ 0 in
    let others : All Solved (front ++ back) =
    All-weaker (λ entries. product_sum n (cleared n pivot inverse entries) below.values ≡ 0) Solved
    (λ entries h. other_solved n pivot below.values inverse entries byte bytes below.bytes h) (front ++ back)
    (All-from_map (λ entries. product_sum n entries below.values ≡ 0) (cleared n pivot inverse) (front ++ back) below.solves) in
    record {
      values = with_solved n pivot below.values inverse;
      bytes =
          with_last-lt n below.values (gf_mul inverse (product_sum n pivot below.values)) below.bytes
          (gf_mul-lt inverse (product_sum n pivot below.values)
          (gf_sum-lt n (λ j. gf_mul (pivot j) (below.values j)) (λ j h. gf_mul-lt (pivot j) (below.values j) (below.bytes j h))));
      place = below.place;
      within = omega (arith, below.within);
      nonzero = λ e. below.nonzero (sym (earlier_value n below.values (gf_mul inverse (product_sum n pivot below.values)) below.place below.within) ∙ e);
      solves =
          All-append Solved front (pivot ∷ back) (All-front Solved front back others)
          (All-cons Solved pivot back (pivot_solved n pivot below.values inverse byte bytes below.bytes one) (All-back Solved front back others));
    }

-- the cleared equations have bytes again
cleared_bytes : (n : ℕ) (front : List (ℕ → ℕ)) (pivot : ℕ → ℕ) (back : List (ℕ → ℕ)) (inverse : ℕ) → All (HasByteEntries (suc n)) (front ++ pivot ∷ back)
    → HasByteEntries (suc n) pivot × All (HasByteEntries n) (map (cleared n pivot inverse) (front ++ back))
cleared_bytes n front pivot back inverse bytes =
    let P = HasByteEntries (suc n) in
    let rest : All (HasByteEntries (suc n)) (pivot ∷ back) = All-back P front (pivot ∷ back) bytes in
    let of_pivot : HasByteEntries (suc n) pivot = All-head P pivot back rest in (
      of_pivot,
      All-map (HasByteEntries n) (cleared n pivot inverse) (front ++ back)
          (All-weaker P (λ entries. HasByteEntries n (cleared n pivot inverse entries)) (λ entries h. cleared-lt n pivot inverse entries of_pivot h) (front ++ back)
          (All-append P front back (All-front P front (pivot ∷ back) bytes) (All-tail P pivot back rest))),
    )

cleared_count : (n : ℕ) (front : List (ℕ → ℕ)) (pivot : ℕ → ℕ) (back : List (ℕ → ℕ)) (inverse : ℕ) → length (front ++ pivot ∷ back) < suc n → length (map (cleared n pivot inverse) (front ++ back)) < n
cleared_count n front pivot back inverse h =
    omega (arith, length-map (front ++ back) (cleared n pivot inverse), length-append front back, length-append front (pivot ∷ back))

-- fewer equations than unknowns, each given by its entries, as a function of the unknown's number
pub kernel : (count : ℕ) (equations : List (ℕ → ℕ)) → All (HasByteEntries count) equations → length equations < count → NonzeroSolution count equations
kernel zero equations bytes fewer = absurd (omega arith)
kernel (suc n) equations bytes fewer =
    elim (cases_pivot n equations) [
      | inl none ↦ free_last n equations none
      | inr pivot ↦
          let all : All (HasByteEntries (suc n)) (pivot.front ++ pivot.entries ∷ pivot.back) = subst (All (HasByteEntries (suc n))) pivot.stands bytes in
          let of_pivot : HasByteEntries (suc n) pivot.entries = (cleared_bytes n pivot.front pivot.entries pivot.back 0 all).0 in
          let inverse = inverse_exists (pivot.entries n) (of_pivot n (omega arith)) pivot.nonzero in
          subst (NonzeroSolution (suc n)) (sym pivot.stands)
          (solution_from_cleared n pivot.front pivot.entries pivot.back inverse.0 inverse.1 of_pivot inverse.2
          (kernel n (map (cleared n pivot.entries inverse.0) (pivot.front ++ pivot.back)) (cleared_bytes n pivot.front pivot.entries pivot.back inverse.0 all).1
          (cleared_count n pivot.front pivot.entries pivot.back inverse.0 (subst (λ list. length list < suc n) pivot.stands fewer))))
    ]

-- the entries of a row, as a function of the place
abbrev pub entries_of : List ℕ → ℕ → ℕ
entries_of row j = get_or row j 0

-- fewer rows of bytes than unknowns
pub kernel-rows : (count : ℕ) (rows : List (List ℕ)) → All AreBytes rows → length rows < count → NonzeroSolution count (map entries_of rows)
kernel-rows count rows bytes fewer =
    kernel count (map entries_of rows)
    (All-map (HasByteEntries count) entries_of rows (All-weaker AreBytes (λ row. HasByteEntries count (entries_of row)) (λ row p j h. byte_at row j p) rows bytes))
    (rw (length-map rows entries_of) fewer)
