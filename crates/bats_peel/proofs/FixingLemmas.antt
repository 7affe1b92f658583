-- Whether a batch fixes its contributors outside a set: what the reduction of their columns says of it.
use Rattle.std.proofs.Common.{ℕ, ◌≡◌, ◌≢◌, ◌<◌, ◌≤◌, ◌+◌, ◌*◌, ◌∙◌, ◌⊎◌, ◌↔◌, inl, inr, Bool, true, false, List, [], ◌∷◌, ◌++◌, length, map, get_or, replicate, sym, ap, refl, subst, arith}
use Rattle.std.specs.Prelude.{All, AllPairs, Contains}
use Rattle.std.specs.List.{range_with_len}
use Rattle.std.proofs.lemmas.Bool.{cases_Bool, cases_lt, cases_eq, false≢true}
use Rattle.std.proofs.lemmas.List.{length-map, get_or-map, get_or_default, length-replicate}
use Rattle.std.proofs.lemmas.List.Elements.{All-nil, All-map, All-replicate, All-contains, Contains-get_or, Contains-append_left, Contains-push, Contains-push_cases}
use Rattle.std.proofs.lemmas.List.FromFn.{length-range_with_len}
use Rattle.std.proofs.lemmas.List.Quantifiers.{all_pairs_push}
use Rattle.std.proofs.lemmas.Nat.{mul-le}
use Rattle.gf_core.specs.Bytes.{AreBytes}
use Rattle.gf_core.specs.Field.{gf_add, gf_mul, gf_sum}
use Rattle.gf_core.proofs.AddLemmas.{gf_add-lt, gf_add-zero, zero-gf_add}
use Rattle.gf_core.proofs.SumLemmas.{gf_sum-zero, gf_sum-lt, gf_sum-congruence, gf_sum-one}
use Rattle.gf_core.proofs.ProductLemmas.{gf_mul-lt, gf_mul-zero, gf_mul-one}
use Rattle.gf_rows.specs.declared.operation.Op.{Op}
use Rattle.gf_rows.specs.Matrix.{Grid, IsMatrix, matrix_entry}
use Rattle.gf_rows.specs.Operation.{FitsRows}
use Rattle.gf_rows.specs.Plan.{IsPlan, plan_on_column}
use Rattle.gf_rows.specs.Performed.{Performed}
use Rattle.gf_rows.specs.Equations.{AreValues, row_value, Solves}
use Rattle.gf_rows.proofs.KernelLemmas.{HasByteEntries, product_sum, NonzeroSolution, kernel, All-from_map}
use Rattle.gf_rows.proofs.PlanLemmas.{plan_on_column-nil, plan_on_column-zeros}
use Rattle.gf_rows.proofs.SolutionLemmas.{length-performed, IsMatrix-performed}
use Rattle.bats_model.specs.Session.{SessionData}
use Rattle.bats_model.specs.Batch.{BatchData, degree_of, contributor_of}
use Rattle.bats_model.specs.Peeling.{is_in, AreHidden, Fixes}
use Rattle.bats_model.specs.declared.packet.Packet.{Packet}
use Rattle.bats_dense.specs.declared.dense.Dense.{Dense}
use Rattle.bats_dense.specs.Reduced.{AreTargets, IsReduced}
use Rattle.bats_dense.specs.Kept.{KeepsSolutions}
use Rattle.bats_dense.specs.Completed.{free_value, IsCompleted}
use Rattle.bats_dense.proofs.Completing.{Solves-completed, rising-apart, pivot-not-free}
use Rattle.bats_peel.specs.declared.local.Local.{Local}
use Rattle.bats_peel.specs.steps.Local.{IsLocalOf, WritesEntries}
use Rattle.bats_peel.specs.steps.Fixing.{IsOutside, AreHiddenIn, FixesIn, column_from, IsFixing, AreOutside, HasColumns}
use Rattle.bats_peel.proofs.PlaceSums.{range-at, range-within, range-distinct, range-has, rising-length, rising-own, IsAtOwn, at_place, at_place-same, at_place-other, at_place-lt, spread, spread-at, spread-none, spread-lt, sum_at_places, zeros, zeros-at, matrix_entry-lt}

-- ---- the places outside the set

pub AreOutside-none : (local : Local) (set : List Bool) (places : List ℕ) → places ≡ [] → AreOutside local set 0 places
AreOutside-none local set places none = record {
  are = λ k. (
    λ has. let short : length places ≡ 0 = ap (λ (xs : List ℕ). length xs) none in absurd (omega (arith, has.1)),
    λ h. absurd (omega (arith, h.0)),
  );
  rise = λ i j d before h. let short : length places ≡ 0 = ap (λ (xs : List ℕ). length xs) none in absurd (omega arith);
}

-- contributor k is outside
pub AreOutside-more : (local : Local) (set : List Bool) (k : ℕ) (places after : List ℕ) → AreOutside local set k places
    → is_in set (contributor_of local.batch k) ≡ false → after ≡ places ++ k ∷ [] → AreOutside local set (k + 1) after
AreOutside-more local set k places after outside unknown pushed =
    let more : List ℕ = places ++ k ∷ [] in
    let longer : AreOutside local set (k + 1) more = record {
      are = λ j. (
        λ has. elim (Contains-push_cases places k j has) [
          | inl early ↦ let h = (outside.are j).0 early in (omega (arith, h.0), h.1)
          | inr e ↦ (omega (arith, e), subst (λ n. is_in set (contributor_of local.batch n) ≡ false) e unknown)
        ],
        λ h. elim (cases_eq j k) [
          | inl e ↦ subst (Contains more) (sym e) (Contains-push places k)
          | inr other ↦ Contains-append_left places (k ∷ []) j ((outside.are j).1 (omega (arith, h.0), h.1))
        ],
      );
      rise = all_pairs_push (λ a b. a < b) places k outside.rise (λ i d h. ((outside.are (get_or places i d)).0 (Contains-get_or places i d h)).0);
    } in
    subst (AreOutside local set (k + 1)) (sym pushed) longer

-- contributor k is inside
pub AreOutside-skip : (local : Local) (set : List Bool) (k : ℕ) (places : List ℕ) → AreOutside local set k places
    → is_in set (contributor_of local.batch k) ≡ true → AreOutside local set (k + 1) places
AreOutside-skip local set k places outside known = record {
  are = λ j. (
    λ has. let h = (outside.are j).0 has in (omega (arith, h.0), h.1),
    λ h. elim (cases_eq j k) [
      | inl e ↦ absurd (false≢true (sym (ap (λ n. is_in set (contributor_of local.batch n)) (sym e) ∙ h.1) ∙ known))
      | inr other ↦ (outside.are j).1 (omega (arith, h.0), h.1)
    ],
  );
  rise = outside.rise;
}

-- ---- their columns

pub HasColumns-none : (m : Grid) (places : List ℕ) (columns : Grid) (rows cols : ℕ) → rows ≡ length m.rows → cols ≡ length places
    → columns ≡ record { cols = cols; rows = replicate rows (replicate cols 0) } → HasColumns m places 0 columns
HasColumns-none m places columns rows cols count width is =
    let zeros : Grid = record { cols = cols; rows = replicate rows (replicate cols 0) } in
    let matrix : IsMatrix zeros = record {
      widths = All-replicate (λ row. length row ≡ cols) rows (replicate cols 0) (length-replicate cols 0);
      bytes = All-replicate AreBytes rows (replicate cols 0) (All-replicate (λ byte. byte < 256) cols 0 (omega arith));
    } in
    record {
      matrix = subst IsMatrix (sym is) matrix;
      cols = ap (λ (g : Grid). g.cols) is ∙ width;
      rows = ap (λ (g : Grid). length g.rows) is ∙ length-replicate rows (replicate cols 0) ∙ count;
      entries = λ r j h within. absurd (omega arith);
    }

-- one more row
pub HasColumns-more : (m : Grid) (places : List ℕ) (r : ℕ) (before after : Grid) → HasColumns m places r before
    → WritesEntries (λ j. matrix_entry m r (get_or places j 0)) (length places) r before after → HasColumns m places (r + 1) after
HasColumns-more m places r before after has writes = record {
  matrix = writes.matrix;
  cols = writes.cols ∙ has.cols;
  rows = writes.rows ∙ has.rows;
  entries = λ i j h within. elim (cases_eq i r) [
    | inl e ↦
        ap (λ n. matrix_entry after n j) e ∙ writes.entries j within ∙ ap (λ n. matrix_entry m n (get_or places j 0)) (sym e)
    | inr other ↦ ap (λ (ys : List ℕ). get_or ys j 0) (writes.others i other) ∙ has.entries i j (omega arith) within
  ];
}

-- by what was read: the lent list is that of the places
pub HasColumns-read : (m : Grid) (read places : List ℕ) (columns : Grid) → read ≡ places
    → HasColumns m read (length m.rows) columns → HasColumns m places (length m.rows) columns
HasColumns-read m read places columns e has = subst (λ (xs : List ℕ). HasColumns m xs (length m.rows) columns) e has

-- ---- all rows are equations

pub AreTargets-all : (m : Grid) (count : ℕ) (eqs others : List ℕ) → eqs ≡ range_with_len 0 count → others ≡ [] → length m.rows ≡ count → AreTargets m eqs others
AreTargets-all m count eqs others is none rows = record {
  eqs_within = subst (λ (n : ℕ). All (λ r. r < n) eqs) (sym rows) (subst (All (λ r. r < count)) (sym is) (range-within count));
  others_within = subst (All (λ r. r < length m.rows)) (sym none) (All-nil (λ r. r < length m.rows));
  distinct = subst (AllPairs (λ a b. a ≢ b)) (sym is) (range-distinct count);
  apart = subst (All (λ r. ¬ Contains eqs r)) (sym none) (All-nil (λ r. ¬ Contains eqs r));
}

-- the bound on the steps, by the sizes
steps-within : (new old cols count places : ℕ) (eqs others : List ℕ) → eqs ≡ range_with_len 0 count → others ≡ [] → cols ≡ places
    → new ≤ old + (length eqs + length others) * cols → new ≤ old + count * places
steps-within new old cols count places eqs others is none width h =
    let eqs_count : length eqs ≡ count = ap (λ (xs : List ℕ). length xs) is ∙ length-range_with_len 0 count in
    let no_others : length others ≡ 0 = ap (λ (xs : List ℕ). length xs) none in
    let sizes : length eqs + length others ≡ count = omega arith in
    subst (λ (w : ℕ). new ≤ old + count * w) width (subst (λ (n : ℕ). new ≤ old + n * cols) sizes h)

-- ---- values of the contributors, and of those at the places

module _ (local : Local) (set : List Bool) (places : List ℕ) (outside : AreOutside local set (degree_of local.batch) places)
    (width : local.matrix.cols ≡ degree_of local.batch) (matrix : IsMatrix local.matrix) where
  abbrev place : ℕ → ℕ
  place i = get_or places i 0

  pub places_below : All (λ k. k < degree_of local.batch) places
  places_below i d h = ((outside.are (get_or places i d)).0 (Contains-get_or places i d h)).0

  pub places_within : All (λ k. k < local.matrix.cols) places
  places_within = subst (λ (n : ℕ). All (λ k. k < n) places) (sym width) places_below

  pub places_few : length places ≤ degree_of local.batch
  places_few = rising-length places (degree_of local.batch) outside.rise places_below

  no_place : (k : ℕ) → is_in set (contributor_of local.batch k) ≡ true → ¬ Contains places k
  no_place k known has = false≢true (sym ((outside.are k).0 has).1 ∙ known)

  -- a contributor is at a place, or inside
  each_place : (k : ℕ) → k < degree_of local.batch → Contains places k ⊎ ((¬ Contains places k) × (is_in set (contributor_of local.batch k) ≡ true))
  each_place k h = elim (cases_Bool (is_in set (contributor_of local.batch k))) [
    | inl known ↦ inr (no_place k known, known)
    | inr unknown ↦ inl ((outside.are k).1 (h, unknown))
  ]

  pub none_outside : length places ≡ 0 → (k : ℕ) → ¬ IsOutside local set k
  none_outside none k is =
      let has : Contains places k = (outside.are k).1 is in
      absurd (omega (arith, has.1))

  -- what row r makes of values at the places
  abbrev place_sum : ℕ → (ℕ → ℕ) → ℕ
  place_sum r values = gf_sum (length places) (λ i. gf_mul (matrix_entry local.matrix r (get_or places i 0)) (values i))

  -- of values that are 0 inside, a row takes from the places alone
  value_at_places : (x : ℕ → ℕ) → ((k : ℕ) → k < degree_of local.batch → is_in set (contributor_of local.batch k) ≡ true → x k ≡ 0)
      → (r : ℕ) → row_value local.matrix x r ≡ place_sum r (λ i. x (place i))
  value_at_places x inside r =
      let term : ℕ → ℕ = λ k. gf_mul (matrix_entry local.matrix r k) (x k) in
      ap (λ (n : ℕ). gf_sum n term) width ∙
      sum_at_places (degree_of local.batch) term places outside.rise places_below
      (λ k h. elim (each_place k h) [
        | inl has ↦ inl has
        | inr none ↦ inr (none.0, ap (gf_mul (matrix_entry local.matrix r k)) (inside k h none.1) ∙ gf_mul-zero (matrix_entry local.matrix r k))
      ])

  -- no row tells the values at the places from zeros
  abbrev AreUnseen : (ℕ → ℕ) → Type 0
  AreUnseen y = (r : ℕ) → r < length local.matrix.rows → place_sum r y ≡ 0

  -- where these are zeros alone, the batch fixes the contributors
  fixed_by : ((y : ℕ → ℕ) → AreValues (length places) y → AreUnseen y → (i : ℕ) → i < length places → y i ≡ 0) → FixesIn local set
  fixed_by only x hidden k h = elim (each_place k h) [
    | inl has ↦
        let is : place has.0 ≡ k = get_or_default places has.0 0 k has.1 ∙ has.2 in
        ap x (sym is) ∙
        only (λ i. x (place i)) (λ i w. hidden.bytes (place i) (places_below i 0 w))
        (λ r w. sym (value_at_places x hidden.zero_inside r) ∙ hidden.zero_rows r w) has.0 has.1
    | inr none ↦ hidden.zero_inside k h none.1
  ]

  -- where one of them isn't 0, it doesn't
  not_fixed : (y : ℕ → ℕ) → AreValues (length places) y → AreUnseen y → (p : ℕ) → p < length places → y p ≢ 0 → ¬ FixesIn local set
  not_fixed y bytes unseen p h nonzero fixed =
      let x : ℕ → ℕ = spread places y in
      let inside : (k : ℕ) → k < degree_of local.batch → is_in set (contributor_of local.batch k) ≡ true → x k ≡ 0 =
      λ k w known. spread-none places y k (no_place k known) in
      let hidden : AreHiddenIn local set x = record {
        bytes = λ k w. spread-lt places y k bytes;
        zero_inside = inside;
        zero_rows = λ r w.
            value_at_places x inside r ∙
            (gf_sum-congruence (length places) (λ i. gf_mul (matrix_entry local.matrix r (get_or places i 0)) (x (place i)))
            (λ i. gf_mul (matrix_entry local.matrix r (get_or places i 0)) (y i))
            (λ i q. ap (gf_mul (matrix_entry local.matrix r (get_or places i 0))) (spread-at places y i outside.rise q)) ∙
            unseen r w);
      } in
      nonzero (sym (spread-at places y p outside.rise h) ∙ fixed x hidden (place p) (places_below p 0 h))

  -- fewer rows than places
  pub too_few_rows : length local.matrix.rows < length places → ¬ FixesIn local set
  too_few_rows fewer =
      let rows : List ℕ = range_with_len 0 (length local.matrix.rows) in
      let equation : ℕ → ℕ → ℕ = λ r j. matrix_entry local.matrix r (get_or places j 0) in
      let solution : NonzeroSolution (length places) (map equation rows) =
      kernel (length places) (map equation rows)
      (All-map (HasByteEntries (length places)) equation rows (λ k d h j q. matrix_entry-lt local.matrix (get_or rows k d) (get_or places j 0) matrix))
      (omega (arith, length-map rows equation, length-range_with_len 0 (length local.matrix.rows))) in
      let solves = All-from_map (λ entries. product_sum (length places) entries solution.values ≡ 0) equation rows solution.solves in
      not_fixed solution.values solution.bytes
      (λ r w.
      subst (λ (n : ℕ). place_sum n solution.values ≡ 0) (range-at (length local.matrix.rows) r 0 w)
      (solves r 0 (omega (arith, length-range_with_len 0 (length local.matrix.rows)))))
      solution.place solution.within solution.nonzero

  -- ---- the reduced columns

  module _ (m : Grid) (eqs others : List ℕ) (before : List Op) (dense : Dense)
      (columns : HasColumns local.matrix places (length local.matrix.rows) m) (is : eqs ≡ range_with_len 0 (length local.matrix.rows)) (none : before ≡ [])
      (reduced : IsReduced eqs others dense) (did : Performed eqs m dense.matrix before dense.plan) (keeps : KeepsSolutions eqs m dense.matrix before dense.plan) where
    abbrev row_total : ℕ
    row_total = length local.matrix.rows

    dense_cols : dense.matrix.cols ≡ length places
    dense_cols = did.cols ∙ columns.cols

    has_row : (r : ℕ) → r < row_total → Contains eqs r
    has_row r h = subst (λ (xs : List ℕ). Contains xs r) (sym is) (range-has row_total r h)

    row_within : (r : ℕ) → Contains eqs r → r < row_total
    row_within r has = All-contains (λ k. k < row_total) eqs r (subst (All (λ k. k < row_total)) (sym is) (range-within row_total)) has

    column_value : (y : ℕ → ℕ) (r : ℕ) → r < row_total → row_value m y r ≡ place_sum r y
    column_value y r w =
        ap (λ (n : ℕ). gf_sum n (λ j. gf_mul (matrix_entry m r j) (y j))) columns.cols ∙
        gf_sum-congruence (length places) (λ j. gf_mul (matrix_entry m r j) (y j)) (λ j. gf_mul (matrix_entry local.matrix r (get_or places j 0)) (y j))
        (λ j h. ap (λ entry. gf_mul entry (y j)) (columns.entries r j w h))

    before_is : (column : List ℕ) → plan_on_column before column ≡ column
    before_is column = ap (λ (ops : List Op). plan_on_column ops column) none ∙ plan_on_column-nil column

    column_values : (y : ℕ → ℕ) → AreValues (length places) y → AreValues m.cols y
    column_values y bytes j h = bytes j (subst (λ (n : ℕ). j < n) columns.cols h)

    -- values of which the rows make a column are completed after the plan
    completed : (column : List ℕ) (y : ℕ → ℕ) → length column ≡ row_total → AreBytes column → AreValues (length places) y
        → ((r : ℕ) → r < row_total → get_or column r 0 ≡ place_sum r y) → IsCompleted dense (plan_on_column dense.plan column) y
    completed column y long column_bytes bytes says =
        let solves : Solves m column eqs y = record {
          each = λ k d h.
              let r : ℕ = get_or eqs k d in
              let within : r < row_total = row_within r (Contains-get_or eqs k d h) in
              says r within ∙ sym (column_value y r within);
        } in
        (Solves-completed eqs others (plan_on_column dense.plan column) dense y reduced).0
        ((keeps.solutions column y (long ∙ sym columns.rows) column_bytes (column_values y bytes)).0
        (subst (λ (ys : List ℕ). Solves m ys eqs y) (sym (before_is column)) solves))

    abbrev nothing : List ℕ
    nothing = zeros row_total

    zeros_after : plan_on_column dense.plan nothing ≡ nothing
    zeros_after = plan_on_column-zeros dense.plan row_total

    zero_bytes : AreBytes nothing
    zero_bytes = All-replicate (λ byte. byte < 256) row_total 0 (omega arith)

    -- values that are completed for zeros are seen by no row
    unseen : (y : ℕ → ℕ) → AreValues (length places) y → IsCompleted dense nothing y → AreUnseen y
    unseen y bytes is_completed r w =
        let solved : Solves dense.matrix nothing eqs y = (Solves-completed eqs others nothing dense y reduced).1 is_completed in
        let solves : Solves m (plan_on_column before nothing) eqs y =
        (keeps.solutions nothing y (length-replicate row_total 0 ∙ sym columns.rows) zero_bytes (column_values y bytes)).1
        (subst (λ (ys : List ℕ). Solves dense.matrix ys eqs y) (sym zeros_after) solved) in
        let at : get_or (plan_on_column before nothing) r 0 ≡ row_value m y r =
        All-contains (λ k. get_or (plan_on_column before nothing) k 0 ≡ row_value m y k) eqs r solves.each (has_row r w) in
        sym (column_value y r w) ∙ (sym at ∙ (ap (λ (ys : List ℕ). get_or ys r 0) (before_is nothing) ∙ zeros-at row_total r))

    -- ---- no column is free

    module _ (no_free : length dense.free ≡ 0) where
      pivot_at : (i : ℕ) → i < length places → IsAtOwn dense.pivot_columns i
      pivot_at i h =
          rising-own dense.pivot_columns (length places) reduced.columns.pivots_rise
          (λ j w. elim (reduced.columns.each j (omega (arith, dense_cols))) [
            | inl has ↦ has
            | inr free ↦ absurd (omega (arith, free.1))
          ]) i h

      pivot_count : length dense.pivot_rows ≡ length places
      pivot_count =
          let most : length dense.pivot_columns ≤ dense.matrix.cols =
          rising-length dense.pivot_columns dense.matrix.cols reduced.columns.pivots_rise reduced.columns.pivots_within in
          elim (cases_lt (length dense.pivot_columns) (length places)) [
            | inl short ↦ absurd (omega (arith, (pivot_at (length dense.pivot_columns) short).0))
            | inr long ↦ omega (arith, reduced.pivots.sizes, dense_cols)
          ]

      no_free_value : (y : ℕ → ℕ) (r : ℕ) → free_value dense y r ≡ 0
      no_free_value y r =
          let term : ℕ → ℕ = λ k. gf_mul (matrix_entry dense.matrix r (get_or dense.free k 0)) (y (get_or dense.free k 0)) in
          ap (λ (n : ℕ). gf_sum n term) no_free ∙ gf_sum-zero term

      value_in_row : (column : List ℕ) (y : ℕ → ℕ) (i : ℕ) → IsCompleted dense column y → i < length places
          → get_or column (get_or dense.pivot_rows i 0) 0 ≡ y i
      value_in_row column y i is_completed h =
          let own = pivot_at i h in
          let r : ℕ = get_or dense.pivot_rows i 0 in
          sym (ap y (sym own.1) ∙
          (is_completed.pivots i own.0 ∙ (ap (gf_add (get_or column r 0)) (no_free_value y r) ∙ gf_add-zero (get_or column r 0))))

      pub FixesIn-reduced : FixesIn local set
      FixesIn-reduced =
          fixed_by (λ y bytes none_seen i h.
          let is_completed : IsCompleted dense nothing y =
          subst (λ (ys : List ℕ). IsCompleted dense ys y) zeros_after
          (completed nothing y (length-replicate row_total 0) zero_bytes bytes (λ r w. zeros-at row_total r ∙ sym (none_seen r w))) in
          sym (value_in_row nothing y i is_completed h) ∙ zeros-at row_total (get_or dense.pivot_rows i 0))

      -- what the rows make of values of all contributors
      module _ (values : ℕ → ℕ) (bytes : (k : ℕ) → k < degree_of local.batch → values k < 256) where
        made : IsCompleted dense (plan_on_column dense.plan (column_from local places values)) (λ i. values (get_or places i 0))
        made =
            let y : ℕ → ℕ = λ i. values (get_or places i 0) in
            let byte_values : AreValues (length places) y = λ i h. bytes (get_or places i 0) (places_below i 0 h) in
            let row_sum : ℕ → ℕ = λ r. place_sum r y in
            let rows : List ℕ = range_with_len 0 row_total in
            completed (map row_sum rows) y (length-map rows row_sum ∙ length-range_with_len 0 row_total)
            (All-map (λ byte. byte < 256) row_sum rows
            (λ k d h. gf_sum-lt (length places) (λ i. gf_mul (matrix_entry local.matrix (get_or rows k d) (get_or places i 0)) (y i))
            (λ i q. gf_mul-lt (matrix_entry local.matrix (get_or rows k d) (get_or places i 0)) (y i) (byte_values i q))))
            byte_values
            (λ r w. get_or-map row_sum rows r 0 0 (omega (arith, length-range_with_len 0 row_total)) ∙ ap row_sum (range-at row_total r 0 w))

      rows_apart : AllPairs (λ a b. a ≢ b) dense.pivot_rows
      rows_apart i j d before_j h e =
          let sizes = reduced.pivots.sizes in
          let first : get_or dense.pivot_rows i 0 ≡ get_or dense.pivot_rows i d = get_or_default dense.pivot_rows i 0 d (omega arith) in
          let second : get_or dense.pivot_rows j 0 ≡ get_or dense.pivot_rows j d = get_or_default dense.pivot_rows j 0 d h in
          let same : get_or dense.pivot_rows i 0 ≡ get_or dense.pivot_rows j 0 = first ∙ e ∙ sym second in
          let one = reduced.pivots.ones i (omega arith) in
          let zero_there = reduced.pivots.zeros j i (omega arith) (omega arith) (λ q. absurd (omega (arith, q))) in
          let both = ap (λ (r : ℕ). matrix_entry dense.matrix r (get_or dense.pivot_columns i 0)) same in
          absurd (omega (arith, one, zero_there, both))

      places_apart : AllPairs (λ a b. a ≢ b) places
      places_apart i j d before_j h e = absurd (omega (arith, outside.rise i j d before_j h, e))

      pub IsFixing-reduced : (old new : ℕ) → others ≡ [] → All (FitsRows (length dense.matrix.rows)) dense.plan
          → new + length before ≡ old + length dense.plan → new ≤ old + (length eqs + length others) * m.cols
          → IsFixing local set (record { places = places; plan = dense.plan; rows = dense.pivot_rows; zero_rows = dense.zero_rows })
      IsFixing-reduced old new no_others fits counted bound = record {
        places_are = outside.are;
        places_once = places_apart;
        plan_fits = subst (λ (n : ℕ). All (FitsRows n) dense.plan) (length-performed did ∙ columns.rows) fits;
        is_plan = subst IsPlan (sym (did.plan ∙ ap (λ (ops : List Op). ops ++ did.ops) none)) did.is;
        size = pivot_count;
        each_row = λ r. (
          λ h. All-contains (λ k. Contains dense.pivot_rows k ⊎ Contains dense.zero_rows k) eqs r reduced.each (has_row r h),
          λ has. row_within r (elim has [
            | inl pivot ↦ All-contains (Contains eqs) dense.pivot_rows r reduced.from_eqs pivot
            | inr empty ↦ ((reduced.zero_rows.are r).0 empty).0
          ]),
        );
        rows_once = rows_apart;
        zero_rows_once = reduced.zero_rows.once;
        apart = reduced.apart;
        few =
            let steps : new ≤ old + row_total * length places =
            steps-within new old m.cols row_total (length places) eqs others is no_others columns.cols bound in
            let empty : length before ≡ 0 = ap (λ (ops : List Op). length ops) none in
            omega (arith, counted, steps, empty);
        gives = λ values bytes i h. value_in_row (plan_on_column dense.plan (column_from local places values)) (λ k. values (get_or places k 0)) i (made values bytes) h;
        zero = λ values bytes. (made values bytes).zero_rows;
      }

    -- ---- a column is free

    module _ (some : 0 < length dense.free) where
      abbrev free : ℕ
      free = get_or dense.free 0 0

      -- 1 at the free column, 0 at the others, and what solves the pivot rows
      entry_at : ℕ → ℕ
      entry_at i = matrix_entry dense.matrix (get_or dense.pivot_rows i 0) free

      hidden_value : ℕ → ℕ
      hidden_value j = gf_add (at_place free j 1) (spread dense.pivot_columns entry_at j)

      is_free : (k : ℕ) → k < length dense.free → Contains dense.free (get_or dense.free k 0)
      is_free k h = Contains-get_or dense.free k 0 h

      not_pivot : (k : ℕ) → k < length dense.free → ¬ Contains dense.pivot_columns (get_or dense.free k 0)
      not_pivot k h has =
          pivot-not-free dense.matrix.cols dense.pivot_columns dense.free reduced.columns (get_or dense.free k 0) has (is_free k h)

      at_free : (k : ℕ) → k < length dense.free → hidden_value (get_or dense.free k 0) ≡ at_place free (get_or dense.free k 0) 1
      unfolding hidden_value
      at_free k h =
          ap (gf_add (at_place free (get_or dense.free k 0) 1)) (spread-none dense.pivot_columns entry_at (get_or dense.free k 0) (not_pivot k h)) ∙
          gf_add-zero (at_place free (get_or dense.free k 0) 1)

      at_first : hidden_value free ≡ 1
      at_first = at_free 0 some ∙ at_place-same free free 1 refl

      at_later : (k : ℕ) → k < length dense.free → k ≢ 0 → hidden_value (get_or dense.free k 0) ≡ 0
      at_later k h apart =
          at_free k h ∙
          at_place-other free (get_or dense.free k 0) 1 (rising-apart dense.free 0 k reduced.columns.free_rise some h (λ e. apart (sym e)))

      at_pivot : (i : ℕ) → i < length dense.pivot_columns → hidden_value (get_or dense.pivot_columns i 0) ≡ entry_at i
      unfolding hidden_value
      at_pivot i h =
          let pivot : ℕ = get_or dense.pivot_columns i 0 in
          ap (λ x. gf_add x (spread dense.pivot_columns entry_at pivot))
          (at_place-other free pivot 1 (λ e. not_pivot 0 some (subst (Contains dense.pivot_columns) (sym e) (Contains-get_or dense.pivot_columns i 0 h)))) ∙
          (zero-gf_add (spread dense.pivot_columns entry_at pivot) ∙ spread-at dense.pivot_columns entry_at i reduced.columns.pivots_rise h)

      dense_bytes : (r j : ℕ) → matrix_entry dense.matrix r j < 256
      dense_bytes r j = matrix_entry-lt dense.matrix r j (IsMatrix-performed did columns.matrix)

      free_sum : (r : ℕ) → free_value dense hidden_value r ≡ matrix_entry dense.matrix r free
      free_sum r =
          gf_sum-one (length dense.free) (λ k. gf_mul (matrix_entry dense.matrix r (get_or dense.free k 0)) (hidden_value (get_or dense.free k 0))) 0 some
          (λ k h apart. ap (gf_mul (matrix_entry dense.matrix r (get_or dense.free k 0))) (at_later k h apart) ∙ gf_mul-zero (matrix_entry dense.matrix r (get_or dense.free k 0))) ∙
          (ap (gf_mul (matrix_entry dense.matrix r free)) at_first ∙ gf_mul-one (matrix_entry dense.matrix r free) (dense_bytes r free))

      hidden_bytes : AreValues (length places) hidden_value
      unfolding hidden_value entry_at
      hidden_bytes j h =
          gf_add-lt (at_place free j 1) (spread dense.pivot_columns entry_at j) (at_place-lt free j 1 (omega arith))
          (spread-lt dense.pivot_columns entry_at j (λ i w. dense_bytes (get_or dense.pivot_rows i 0) free))

      hidden_completed : IsCompleted dense nothing hidden_value
      unfolding entry_at
      hidden_completed = record {
        zero_rows = λ k d h. zeros-at row_total (get_or dense.zero_rows k d);
        pivots = λ i h.
            let r : ℕ = get_or dense.pivot_rows i 0 in
            at_pivot i h ∙
            sym (ap (λ x. gf_add x (free_value dense hidden_value r)) (zeros-at row_total r) ∙
            (zero-gf_add (free_value dense hidden_value r) ∙ free_sum r));
      }

      pub not_FixesIn-reduced : ¬ FixesIn local set
      not_FixesIn-reduced =
          not_fixed hidden_value hidden_bytes (unseen hidden_value hidden_bytes hidden_completed) free
          (omega (arith, dense_cols, reduced.columns.free_within 0 0 some)) (λ e. absurd (omega (arith, at_first, e)))

-- the steps are at most so many for each contributor
pub steps-of_degree : (local : Local) (new old cols : ℕ) (eqs others places : List ℕ) → eqs ≡ range_with_len 0 (length local.matrix.rows) → others ≡ []
    → cols ≡ length places → length places ≤ degree_of local.batch → new ≤ old + (length eqs + length others) * cols
    → new ≤ old + length local.matrix.rows * degree_of local.batch
steps-of_degree local new old cols eqs others places is none width few bound =
    let steps : new ≤ old + length local.matrix.rows * length places =
    steps-within new old cols (length local.matrix.rows) (length places) eqs others is none width bound in
    let most : length local.matrix.rows * length places ≤ length local.matrix.rows * degree_of local.batch =
    mul-le (length local.matrix.rows) (length places) (length local.matrix.rows) (degree_of local.batch) (omega arith) few in
    omega (arith, steps, most)

-- ---- what a held batch fixes

abbrev no_packet : Packet
no_packet = record { batch = 0; coefs = []; payload = [] }

module _ (session : SessionData) (number first : ℕ) (kept : List Packet) (set : List Bool) (local : Local) (is : IsLocalOf session number first kept local) where
  hidden_in : (x : ℕ → ℕ) → AreHidden session number kept set x → AreHiddenIn local set x
  hidden_in x hidden =
      let bytes : (k : ℕ) → k < degree_of local.batch → x k < 256 =
      subst (λ (b : BatchData). (k : ℕ) → k < degree_of b → x k < 256) (sym is.batch_is) hidden.bytes in
      record {
        bytes = bytes;
        zero_inside = subst (λ (b : BatchData). (k : ℕ) → k < degree_of b → is_in set (contributor_of b k) ≡ true → x k ≡ 0) (sym is.batch_is) hidden.zero_inside;
        zero_rows = λ r h.
            let within : r < length kept = omega (arith, is.rows) in
            is.values x bytes r no_packet within ∙ hidden.zero_sums r no_packet within;
      }

  hidden_from : (x : ℕ → ℕ) → AreHiddenIn local set x → AreHidden session number kept set x
  hidden_from x hidden = record {
    bytes = subst (λ (b : BatchData). (k : ℕ) → k < degree_of b → x k < 256) is.batch_is hidden.bytes;
    zero_inside = subst (λ (b : BatchData). (k : ℕ) → k < degree_of b → is_in set (contributor_of b k) ≡ true → x k ≡ 0) is.batch_is hidden.zero_inside;
    zero_sums = λ i d h. sym (is.values x hidden.bytes i d h) ∙ hidden.zero_rows i (omega (arith, is.rows));
  }

  -- the kept packets fix what their local fixes
  pub Fixes-local : Fixes session number kept set ↔ FixesIn local set
  Fixes-local = (
    λ fixes x hidden.
        subst (λ (b : BatchData). (k : ℕ) → k < degree_of b → x k ≡ 0) (sym is.batch_is) (fixes.only_zeros x (hidden_from x hidden)),
    λ fixes. record {
      only_zeros = λ x hidden.
          subst (λ (b : BatchData). (k : ℕ) → k < degree_of b → x k ≡ 0) is.batch_is (fixes x (hidden_in x hidden));
    },
  )
