-- Rising places: sums over them, values put at them, and when they are all places.
use Rattle.std.proofs.Common.{ℕ, zero, suc, ◌≡◌, ◌≢◌, ◌<◌, ◌≤◌, ◌+◌, ◌∙◌, ◌⊎◌, inl, inr, eqb, if◌then◌else◌, List, [], ◌∷◌, ◌++◌, length, get_or, replicate, map-id, sym, ap, refl, subst, arith}
use Rattle.std.specs.Prelude.{All, AllPairs, Contains}
use Rattle.std.specs.List.{range_with_len}
use Rattle.std.proofs.lemmas.Bool.{cases_lt, cases_eq, eq-eqb, ne_eqb}
use Rattle.std.proofs.lemmas.List.{get_or_default, get_or_past, get_or-replicate, length-replicate}
use Rattle.std.proofs.lemmas.List.Elements.{All-nil, Contains-get_or}
use Rattle.std.proofs.lemmas.List.FromFn.{length-range_with_len, get_or-range_with_len, map-range_with_len_more}
use Rattle.gf_core.specs.Field.{gf_sum}
use Rattle.gf_core.specs.Bytes.{AreBytes}
use Rattle.gf_core.proofs.SumLemmas.{gf_sum-lt, gf_sum-congruence, gf_sum-zeros, gf_sum-one, gf_sum-exchange}
use Rattle.gf_core.proofs.RowLemmas.{byte_at}
use Rattle.gf_rows.specs.Matrix.{Grid, IsMatrix, matrix_row, matrix_entry}
use Rattle.bats_dense.proofs.Completing.{rising-apart}

-- ---- numbers

-- one more number
pub range_with_len-more : (n : ℕ) → range_with_len 0 (n + 1) ≡ range_with_len 0 n ++ n ∷ []
range_with_len-more n =
    sym (map-id (range_with_len 0 (n + 1))) ∙
    (map-range_with_len_more (λ k. k) 0 n n (omega arith) ∙ ap (λ xs. xs ++ n ∷ []) (map-id (range_with_len 0 n)))

pub range-at : (n k d : ℕ) → k < n → get_or (range_with_len 0 n) k d ≡ k
range-at n k d h = omega (arith, get_or-range_with_len 0 n k d h)

pub range-within : (n : ℕ) → All (λ r. r < n) (range_with_len 0 n)
range-within n = λ k d h.
    let long = length-range_with_len 0 n in
    omega (arith, get_or-range_with_len 0 n k d (omega arith))

pub range-distinct : (n : ℕ) → AllPairs (λ a b. a ≢ b) (range_with_len 0 n)
range-distinct n i j d before h e =
    let long = length-range_with_len 0 n in
    let first = get_or-range_with_len 0 n i d (omega arith) in
    let second = get_or-range_with_len 0 n j d (omega arith) in
    absurd (omega (arith, first, second, e))

pub range-has : (n r : ℕ) → r < n → Contains (range_with_len 0 n) r
range-has n r h = (r, omega (arith, length-range_with_len 0 n), range-at n r r h)

-- rising numbers are at least their places
pub rising-at_least : (xs : List ℕ) (i : ℕ) → AllPairs (λ a b. a < b) xs → i < length xs → i ≤ get_or xs i 0
rising-at_least xs zero rise h = omega arith
rising-at_least xs (suc i) rise h = omega (arith, rising-at_least xs i rise (omega arith), rise i (suc i) 0 (omega arith) h)

-- so there are no more of them than the numbers that they are below
pub rising-length : (xs : List ℕ) (n : ℕ) → AllPairs (λ a b. a < b) xs → All (λ j. j < n) xs → length xs ≤ n
rising-length xs n rise within = elim (cases_lt n (length xs)) [
  | inl more ↦ absurd (omega (arith, rising-at_least xs n rise more, within n 0 more))
  | inr fits ↦ fits
]

-- the number j stands at place j
abbrev pub IsAtOwn : List ℕ → ℕ → Type 0
IsAtOwn xs j = (j < length xs) × (get_or xs j 0 ≡ j)

own_below : (xs : List ℕ) (n c : ℕ) → AllPairs (λ a b. a < b) xs → ((j : ℕ) → j < c → Contains xs j) → n ≤ c → (j : ℕ) → j < n → IsAtOwn xs j
own_below xs zero c rise each h j below = absurd (omega arith)
own_below xs (suc n) c rise each h j below = elim (cases_lt j n) [
  | inl earlier ↦ own_below xs n c rise each (omega arith) j earlier
  | inr last ↦
      let has : Contains xs j = each j (omega arith) in
      let place : ℕ = has.0 in
      let is : get_or xs place 0 ≡ j = get_or_default xs place 0 j has.1 ∙ has.2 in
      let low : place ≤ get_or xs place 0 = rising-at_least xs place rise has.1 in
      elim (cases_lt place n) [
        | inl before ↦
            let own : IsAtOwn xs place = own_below xs n c rise each (omega arith) place before in
            absurd (omega (arith, own.1, is))
        | inr past ↦
            let e : place ≡ j = omega (arith, is) in
            (subst (λ k. k < length xs) e has.1, subst (λ k. get_or xs k 0 ≡ j) e is)
      ]
]

-- rising numbers that have each number below c have it at its own place
pub rising-own : (xs : List ℕ) (c : ℕ) → AllPairs (λ a b. a < b) xs → ((j : ℕ) → j < c → Contains xs j) → (j : ℕ) → j < c → IsAtOwn xs j
rising-own xs c rise each j h = own_below xs c c rise each (omega arith) j h

-- ---- values at places

-- the value at k, where the place is k
pub at_place : ℕ → ℕ → ℕ → ℕ
at_place place k value = if eqb place k then value else 0

pub at_place-same : (place k value : ℕ) → place ≡ k → at_place place k value ≡ value
unfolding at_place
at_place-same place k value e = rw (eq-eqb place k e) refl

pub at_place-other : (place k value : ℕ) → place ≢ k → at_place place k value ≡ 0
unfolding at_place
at_place-other place k value apart = rw (ne_eqb place k apart) refl

pub at_place-lt : (place k value : ℕ) → value < 256 → at_place place k value < 256
at_place-lt place k value h = elim (cases_eq place k) [
  | inl e ↦ subst (λ x. x < 256) (sym (at_place-same place k value e)) h
  | inr apart ↦ omega (arith, at_place-other place k value apart)
]

-- values put at places, and 0 elsewhere
pub spread : List ℕ → (ℕ → ℕ) → ℕ → ℕ
spread places values k = gf_sum (length places) (λ i. at_place (get_or places i 0) k (values i))

pub spread-at : (places : List ℕ) (values : ℕ → ℕ) (i : ℕ) → AllPairs (λ a b. a < b) places → i < length places
    → spread places values (get_or places i 0) ≡ values i
unfolding spread
spread-at places values i rise h =
    gf_sum-one (length places) (λ n. at_place (get_or places n 0) (get_or places i 0) (values n)) i h
    (λ n w apart. at_place-other (get_or places n 0) (get_or places i 0) (values n) (rising-apart places n i rise w h apart)) ∙
    at_place-same (get_or places i 0) (get_or places i 0) (values i) refl

pub spread-none : (places : List ℕ) (values : ℕ → ℕ) (k : ℕ) → ¬ Contains places k → spread places values k ≡ 0
unfolding spread
spread-none places values k none =
    gf_sum-zeros (length places) (λ i. at_place (get_or places i 0) k (values i))
    (λ i h. at_place-other (get_or places i 0) k (values i) (λ e. none (subst (Contains places) e (Contains-get_or places i 0 h))))

pub spread-lt : (places : List ℕ) (values : ℕ → ℕ) (k : ℕ) → ((i : ℕ) → i < length places → values i < 256) → spread places values k < 256
unfolding spread
spread-lt places values k bytes =
    gf_sum-lt (length places) (λ i. at_place (get_or places i 0) k (values i)) (λ i h. at_place-lt (get_or places i 0) k (values i) (bytes i h))

-- a sum over all numbers below c of terms that are 0 outside the places
pub sum_at_places : (c : ℕ) (f : ℕ → ℕ) (places : List ℕ) → AllPairs (λ a b. a < b) places → All (λ j. j < c) places
    → ((j : ℕ) → j < c → Contains places j ⊎ ((¬ Contains places j) × (f j ≡ 0)))
    → gf_sum c f ≡ gf_sum (length places) (λ i. f (get_or places i 0))
unfolding spread
sum_at_places c f places rise within each =
    let values : ℕ → ℕ = λ i. f (get_or places i 0) in
    gf_sum-congruence c f (spread places values) (λ j h. elim (each j h) [
      | inl has ↦
          let is : get_or places has.0 0 ≡ j = get_or_default places has.0 0 j has.1 ∙ has.2 in
          subst (λ k. f k ≡ spread places values k) is (sym (spread-at places values has.0 rise has.1))
      | inr none ↦ none.1 ∙ sym (spread-none places values j none.0)
    ]) ∙
    (gf_sum-exchange c (length places) (λ k i. at_place (get_or places i 0) k (values i)) ∙
    gf_sum-congruence (length places) (λ i. gf_sum c (λ k. at_place (get_or places i 0) k (values i))) values
    (λ i h.
    gf_sum-one c (λ k. at_place (get_or places i 0) k (values i)) (get_or places i 0) (within i 0 h)
    (λ k w apart. at_place-other (get_or places i 0) k (values i) (λ e. apart (sym e))) ∙
    at_place-same (get_or places i 0) (get_or places i 0) (values i) refl))

-- ---- entries

abbrev pub zeros : ℕ → List ℕ
zeros n = replicate n 0

length-zeros : (n : ℕ) → length (zeros n) ≡ n
length-zeros n = let size : length (zeros n) ≡ n = length-replicate n 0 in size

pub zeros-at : (n k : ℕ) → get_or (zeros n) k 0 ≡ 0
zeros-at n k = elim (cases_lt k n) [
  | inl within ↦ get_or-replicate n k 0 0 within
  | inr past ↦ get_or_past (zeros n) k 0 (omega (arith, length-zeros n))
]

pub matrix_entry-lt : (m : Grid) (r j : ℕ) → IsMatrix m → matrix_entry m r j < 256
matrix_entry-lt m r j is =
    byte_at (matrix_row m r) j (elim (cases_lt r (length m.rows)) [
      | inl within ↦ is.bytes r [] within
      | inr past ↦ subst AreBytes (sym (get_or_past m.rows r [] past)) (All-nil (λ byte. byte < 256))
    ])
