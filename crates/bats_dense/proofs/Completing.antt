-- What reduced equations say of the values: a sum over all columns is that over the pivot columns and that over the free
-- columns, and of the pivot columns a pivot row takes from its own alone.
use Rattle.std.proofs.Common.{ℕ, ◌≡◌, ◌≢◌, ◌<◌, ◌∙◌, ◌↔◌, inl, inr, eqb, if◌then◌else◌, List, length, get_or, sym, ap, refl, subst, arith}
use Rattle.std.specs.Prelude.{All, AllPairs, Contains}
use Rattle.std.proofs.lemmas.Bool.{cases_lt, eq-eqb, ne_eqb}
use Rattle.std.proofs.lemmas.List.{get_or_default}
use Rattle.std.proofs.lemmas.List.Elements.{All-contains, Contains-get_or}
use Rattle.gf_core.specs.Field.{gf_add, gf_mul, gf_sum}
use Rattle.gf_core.proofs.AddLemmas.{gf_add-zero, zero-gf_add, gf_add_cancel_right}
use Rattle.gf_core.proofs.SumLemmas.{gf_sum-congruence, gf_sum-zeros, gf_sum-one, gf_sum-gf_add, gf_sum-exchange}
use Rattle.gf_core.proofs.ProductLemmas.{zero-gf_mul, one-gf_mul}
use Rattle.gf_rows.specs.Matrix.{matrix_entry}
use Rattle.gf_rows.specs.Equations.{row_value, Solves}
use Rattle.bats_dense.specs.declared.dense.Dense.{Dense}
use Rattle.bats_dense.specs.Reduced.{AreSplit, IsZeroRow, IsReduced}
use Rattle.bats_dense.specs.Completed.{free_value, IsCompleted}

-- ---- rising numbers

-- two places of rising numbers have two numbers
pub rising-apart : (xs : List ℕ) (i k : ℕ) → AllPairs (λ a b. a < b) xs → i < length xs → k < length xs → i ≢ k → get_or xs i 0 ≢ get_or xs k 0
rising-apart xs i k rise h w apart e =
    elim (cases_lt i k) [
      | inl before ↦ let below : get_or xs i 0 < get_or xs k 0 = rise i k 0 before w in absurd (omega arith)
      | inr after ↦ let below : get_or xs k 0 < get_or xs i 0 = rise k i 0 (omega arith) h in absurd (omega arith)
    ]

-- ---- a sum over some of the columns

-- the term at j, where j is x
term_at : (ℕ → ℕ) → ℕ → ℕ → ℕ
term_at f x j = if eqb x j then f j else 0

term_at-same : (f : ℕ → ℕ) (x j : ℕ) → x ≡ j → term_at f x j ≡ f j
unfolding term_at
term_at-same f x j e = rw (eq-eqb x j e) refl

term_at-other : (f : ℕ → ℕ) (x j : ℕ) → x ≢ j → term_at f x j ≡ 0
unfolding term_at
term_at-other f x j apart = rw (ne_eqb x j apart) refl

-- the term at column j, as often as the list has it
listed : (ℕ → ℕ) → List ℕ → ℕ → ℕ
listed f xs j = gf_sum (length xs) (λ i. term_at f (get_or xs i 0) j)

listed-has : (f : ℕ → ℕ) (xs : List ℕ) (j : ℕ) → AllPairs (λ a b. a < b) xs → Contains xs j → listed f xs j ≡ f j
unfolding listed
listed-has f xs j rise has =
    let place : ℕ = has.0 in
    let is : get_or xs place 0 ≡ j = get_or_default xs place 0 j has.1 ∙ has.2 in
    gf_sum-one (length xs) (λ i. term_at f (get_or xs i 0) j) place has.1
    (λ i h apart. term_at-other f (get_or xs i 0) j (λ e. rising-apart xs i place rise h has.1 apart (e ∙ sym is))) ∙
    term_at-same f (get_or xs place 0) j is

listed-none : (f : ℕ → ℕ) (xs : List ℕ) (j : ℕ) → ¬ Contains xs j → listed f xs j ≡ 0
unfolding listed
listed-none f xs j none =
    gf_sum-zeros (length xs) (λ i. term_at f (get_or xs i 0) j)
    (λ i h. term_at-other f (get_or xs i 0) j (λ e. none (subst (Contains xs) e (Contains-get_or xs i 0 h))))

gf_sum-listed : (c : ℕ) (f : ℕ → ℕ) (xs : List ℕ) → All (λ j. j < c) xs → gf_sum c (listed f xs) ≡ gf_sum (length xs) (λ i. f (get_or xs i 0))
unfolding listed
gf_sum-listed c f xs within =
    gf_sum-exchange c (length xs) (λ j i. term_at f (get_or xs i 0) j) ∙
    gf_sum-congruence (length xs) (λ i. gf_sum c (λ j. term_at f (get_or xs i 0) j)) (λ i. f (get_or xs i 0))
    (λ i h. gf_sum-one c (λ j. term_at f (get_or xs i 0) j) (get_or xs i 0) (within i 0 h)
    (λ j w apart. term_at-other f (get_or xs i 0) j (λ e. apart (sym e))) ∙
    term_at-same f (get_or xs i 0) (get_or xs i 0) refl)

module _ (c : ℕ) (pivots free : List ℕ) (split : AreSplit c pivots free) where
  -- no column is both
  pub pivot-not-free : (j : ℕ) → Contains pivots j → ¬ Contains free j
  pivot-not-free j has = All-contains (λ k. ¬ Contains free k) pivots j split.apart has

  term-split : (f : ℕ → ℕ) (j : ℕ) → j < c → f j ≡ gf_add (listed f pivots j) (listed f free j)
  term-split f j h =
      elim (split.each j h) [
        | inl has ↦
            sym (gf_add-zero (f j)) ∙
            (ap (gf_add (f j)) (sym (listed-none f free j (pivot-not-free j has))) ∙
            ap (λ x. gf_add x (listed f free j)) (sym (listed-has f pivots j split.pivots_rise has)))
        | inr has ↦
            sym (zero-gf_add (f j)) ∙
            (ap (λ x. gf_add x (f j)) (sym (listed-none f pivots j (λ is. pivot-not-free j is has))) ∙
            ap (gf_add (listed f pivots j)) (sym (listed-has f free j split.free_rise has)))
      ]

  -- a sum over all columns
  pub gf_sum-split : (f : ℕ → ℕ) → gf_sum c f ≡ gf_add (gf_sum (length pivots) (λ i. f (get_or pivots i 0))) (gf_sum (length free) (λ i. f (get_or free i 0)))
  gf_sum-split f =
      gf_sum-congruence c f (λ j. gf_add (listed f pivots j) (listed f free j)) (term-split f) ∙
      (gf_sum-gf_add c (listed f pivots) (listed f free) ∙
      (ap (λ x. gf_add x (gf_sum c (listed f free))) (gf_sum-listed c f pivots split.pivots_within) ∙
      ap (gf_add (gf_sum (length pivots) (λ i. f (get_or pivots i 0)))) (gf_sum-listed c f free split.free_within)))

-- ---- the reduced form

module _ (eqs others column : List ℕ) (dense : Dense) (values : ℕ → ℕ) (reduced : IsReduced eqs others dense) where
  product_at : ℕ → ℕ → ℕ
  product_at r j = gf_mul (matrix_entry dense.matrix r j) (values j)

  -- of the pivot columns a pivot row takes from its own alone
  pivot_sum : (i : ℕ) → i < length dense.pivot_columns
      → gf_sum (length dense.pivot_columns) (λ k. product_at (get_or dense.pivot_rows i 0) (get_or dense.pivot_columns k 0))
      ≡ values (get_or dense.pivot_columns i 0)
  unfolding product_at
  pivot_sum i h =
      let r : ℕ = get_or dense.pivot_rows i 0 in
      gf_sum-one (length dense.pivot_columns) (λ k. product_at r (get_or dense.pivot_columns k 0)) i h
      (λ k w apart. ap (λ entry. gf_mul entry (values (get_or dense.pivot_columns k 0))) (reduced.pivots.zeros i k h w (λ e. apart (sym e))) ∙
      zero-gf_mul (values (get_or dense.pivot_columns k 0))) ∙
      (ap (λ entry. gf_mul entry (values (get_or dense.pivot_columns i 0))) (reduced.pivots.ones i h) ∙
      one-gf_mul (values (get_or dense.pivot_columns i 0)))

  pivot_row_value : (i : ℕ) → i < length dense.pivot_columns
      → row_value dense.matrix values (get_or dense.pivot_rows i 0)
      ≡ gf_add (values (get_or dense.pivot_columns i 0)) (free_value dense values (get_or dense.pivot_rows i 0))
  unfolding product_at
  pivot_row_value i h =
      let r : ℕ = get_or dense.pivot_rows i 0 in
      gf_sum-split dense.matrix.cols dense.pivot_columns dense.free reduced.columns (product_at r) ∙
      ap (λ x. gf_add x (free_value dense values r)) (pivot_sum i h)

  zero_row_value : (r : ℕ) → Contains dense.zero_rows r → row_value dense.matrix values r ≡ 0
  zero_row_value r has =
      let zero : IsZeroRow dense.matrix r = ((reduced.zero_rows.are r).0 has).1 in
      gf_sum-zeros dense.matrix.cols (λ j. gf_mul (matrix_entry dense.matrix r j) (values j))
      (λ j h. ap (λ entry. gf_mul entry (values j)) (zero j h) ∙ zero-gf_mul (values j))

  abbrev Says : ℕ → Type 0
  Says r = get_or column r 0 ≡ row_value dense.matrix values r

  completed : Solves dense.matrix column eqs values → IsCompleted dense column values
  completed solves = record {
    zero_rows = λ k d h.
        let r : ℕ = get_or dense.zero_rows k d in
        let has : Contains dense.zero_rows r = Contains-get_or dense.zero_rows k d h in
        All-contains Says eqs r solves.each ((reduced.zero_rows.are r).0 has).0 ∙ zero_row_value r has;
    pivots = λ i h.
        let r : ℕ = get_or dense.pivot_rows i 0 in
        let has : Contains eqs r = reduced.from_eqs i 0 (omega (arith, h, reduced.pivots.sizes)) in
        sym (gf_add_cancel_right (values (get_or dense.pivot_columns i 0)) (free_value dense values r)) ∙
        ap (λ x. gf_add x (free_value dense values r)) (sym (All-contains Says eqs r solves.each has ∙ pivot_row_value i h));
  }

  pivot_solves : IsCompleted dense column values → (i : ℕ) → i < length dense.pivot_columns → Says (get_or dense.pivot_rows i 0)
  pivot_solves is i h =
      let r : ℕ = get_or dense.pivot_rows i 0 in
      sym (gf_add_cancel_right (get_or column r 0) (free_value dense values r)) ∙
      (ap (λ x. gf_add x (free_value dense values r)) (sym (is.pivots i h)) ∙ sym (pivot_row_value i h))

  solved : IsCompleted dense column values → Solves dense.matrix column eqs values
  solved is = record {
    each = λ k d h. elim (reduced.each k d h) [
      | inl has ↦
          let place : get_or dense.pivot_rows has.0 0 ≡ get_or eqs k d = get_or_default dense.pivot_rows has.0 0 (get_or eqs k d) has.1 ∙ has.2 in
          subst Says place (pivot_solves is has.0 (omega (arith, has.1, reduced.pivots.sizes)))
      | inr has ↦
          All-contains (λ r. get_or column r 0 ≡ 0) dense.zero_rows (get_or eqs k d) is.zero_rows has ∙ sym (zero_row_value (get_or eqs k d) has)
    ];
  }

  -- values solve the equations exactly where they are completed
  pub Solves-completed : Solves dense.matrix column eqs values ↔ IsCompleted dense column values
  Solves-completed = (completed, solved)
