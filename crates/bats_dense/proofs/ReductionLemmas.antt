-- The reduced form, one column after another, and at the end.
use Rattle.std.proofs.Common.{ℕ, ◌≡◌, ◌≢◌, ◌<◌, ◌+◌, ◌∙◌, ◌⊎◌, inl, inr, Bool, true, false, List, [], ◌∷◌, ◌++◌, length, get_or, set, replicate, sym, ap, refl, subst, arith, length-set}
use Rattle.std.specs.Prelude.{All, Contains}
use Rattle.std.proofs.lemmas.Bool.{cases_lt, cases_eq}
use Rattle.std.proofs.lemmas.List.{length-replicate, get_or-replicate, get_or-set_same, get_or-set_other, length-append}
use Rattle.std.proofs.lemmas.List.Quantifiers.{all_pairs_push}
use Rattle.std.proofs.lemmas.List.Elements.{All-nil, All-push, All-weaker, All-from_get_or, All-contains, Contains-get_or, Contains-append_left, Contains-push, Contains-push_cases}
use Rattle.std.proofs.Math.ListN.{get_or-append}
use Rattle.gf_rows.specs.declared.operation.Op.{Op}
use Rattle.gf_rows.specs.Matrix.{Grid, matrix_entry}
use Rattle.bats_dense.specs.Reduced.{AreSplit, IsZeroRow, IsReduced}
use Rattle.bats_dense.specs.declared.dense.Dense.{Dense}
use Rattle.bats_dense.specs.steps.Clearing.{ClearsColumn}
use Rattle.bats_dense.specs.steps.Below.{is_used, IsUsedRow, IsReducedBelow, IsPivotPlace, IsUnusedRow, AreUnused}

-- ---- pivot columns and free columns

AreSplit-none : AreSplit 0 [] []
AreSplit-none = record {
  pivots_rise = λ i j d h k. absurd (omega arith);
  free_rise = λ i j d h k. absurd (omega arith);
  pivots_within = All-nil (λ j. j < 0);
  free_within = All-nil (λ j. j < 0);
  each = λ j h. absurd (omega arith);
  apart = All-nil (λ j. ¬ Contains {X = ℕ} [] j);
}

one_more : (c : ℕ) (columns : List ℕ) → All (λ j. j < c) columns → All (λ j. j < c + 1) columns
one_more c columns h = All-weaker (λ j. j < c) (λ j. j < c + 1) (λ j below. omega arith) columns h

AreSplit-pivot : (c : ℕ) (pivots free : List ℕ) → AreSplit c pivots free → AreSplit (c + 1) (pivots ++ c ∷ []) free
AreSplit-pivot c pivots free split = record {
  pivots_rise = all_pairs_push (λ a b. a < b) pivots c split.pivots_rise split.pivots_within;
  free_rise = split.free_rise;
  pivots_within = All-push (λ j. j < c + 1) pivots c (one_more c pivots split.pivots_within) (omega arith);
  free_within = one_more c free split.free_within;
  each = λ j h. elim (cases_lt j c) [
    | inl before ↦ elim (split.each j before) [
      | inl has ↦ inl (Contains-append_left pivots (c ∷ []) j has)
      | inr has ↦ inr has
    ]
    | inr past ↦ let e : c ≡ j = omega arith in inl (subst (Contains (pivots ++ c ∷ [])) e (Contains-push pivots c))
  ];
  apart = All-push (λ j. ¬ Contains free j) pivots c split.apart
      (λ has. let below : c < c = All-contains (λ j. j < c) free c split.free_within has in absurd (omega arith));
}

AreSplit-free : (c : ℕ) (pivots free : List ℕ) → AreSplit c pivots free → AreSplit (c + 1) pivots (free ++ c ∷ [])
AreSplit-free c pivots free split = record {
  pivots_rise = split.pivots_rise;
  free_rise = all_pairs_push (λ a b. a < b) free c split.free_rise split.free_within;
  pivots_within = one_more c pivots split.pivots_within;
  free_within = All-push (λ j. j < c + 1) free c (one_more c free split.free_within) (omega arith);
  each = λ j h. elim (cases_lt j c) [
    | inl before ↦ elim (split.each j before) [
      | inl has ↦ inl has
      | inr has ↦ inr (Contains-append_left free (c ∷ []) j has)
    ]
    | inr past ↦ let e : c ≡ j = omega arith in inr (subst (Contains (free ++ c ∷ [])) e (Contains-push free c))
  ];
  apart = λ k d h has. elim (Contains-push_cases free c (get_or pivots k d) has) [
    | inl free_has ↦ split.apart k d h free_has
    | inr e ↦ let below : get_or pivots k d < c = split.pivots_within k d h in absurd (omega arith)
  ];
}

-- ---- pushed lists

last_of_push : (xs : List ℕ) (x : ℕ) → get_or (xs ++ x ∷ []) (length xs) 0 ≡ x
last_of_push [] x = refl
last_of_push (y ∷ xs) x = last_of_push xs x

place_in_push : (xs : List ℕ) (x i : ℕ) → i < length (xs ++ x ∷ []) → (i < length xs) ⊎ (i ≡ length xs)
place_in_push xs x i h =
    elim (cases_lt i (length xs)) [
      | inl before ↦ inl before
      | inr past ↦ inr (omega (arith, length-append xs (x ∷ [])))
    ]

-- what holds of the rows and columns at each place of two lists, and of one more row and column
module _ (rows columns : List ℕ) (row column : ℕ) (sizes : length rows ≡ length columns) where
  earlier_row : (i : ℕ) → i < length columns → get_or (rows ++ row ∷ []) i 0 ≡ get_or rows i 0
  earlier_row i h = get_or-append rows (row ∷ []) 0 i (omega arith)

  earlier_column : (i : ℕ) → i < length columns → get_or (columns ++ column ∷ []) i 0 ≡ get_or columns i 0
  earlier_column i h = get_or-append columns (column ∷ []) 0 i h

  last_row : (i : ℕ) → i ≡ length columns → get_or (rows ++ row ∷ []) i 0 ≡ row
  last_row i e = ap (λ (k : ℕ). get_or (rows ++ row ∷ []) k 0) (e ∙ sym sizes) ∙ last_of_push rows row

  last_column : (i : ℕ) → i ≡ length columns → get_or (columns ++ column ∷ []) i 0 ≡ column
  last_column i e = ap (λ (k : ℕ). get_or (columns ++ column ∷ []) k 0) e ∙ last_of_push columns column

  pushed : (P : ℕ → ℕ → Type 0) → ((i : ℕ) → i < length columns → P (get_or rows i 0) (get_or columns i 0)) → P row column
      → (i : ℕ) → i < length (columns ++ column ∷ []) → P (get_or (rows ++ row ∷ []) i 0) (get_or (columns ++ column ∷ []) i 0)
  pushed P before here i h =
      elim (place_in_push columns column i h) [
        | inl early ↦
            subst (λ (r : ℕ). P r (get_or (columns ++ column ∷ []) i 0)) (sym (earlier_row i early))
            (subst (λ (j : ℕ). P (get_or rows i 0) j) (sym (earlier_column i early)) (before i early))
        | inr e ↦
            subst (λ (r : ℕ). P r (get_or (columns ++ column ∷ []) i 0)) (sym (last_row i e))
            (subst (λ (j : ℕ). P row j) (sym (last_column i e)) here)
      ]

-- ---- places that are used

cases_bool : (b : Bool) → (b ≡ true) ⊎ (b ≡ false)
cases_bool true = inl refl
cases_bool false = inr refl

used_more : (used : List Bool) (place k : ℕ) → place < length used → is_used used k ≡ true → is_used (set used place true) k ≡ true
used_more used place k h is =
    elim (cases_eq k place) [
      | inl e ↦ ap (λ (i : ℕ). get_or (set used place true) i false) e ∙ get_or-set_same used place true false h
      | inr apart ↦ get_or-set_other used place k true false apart ∙ is
    ]

unused_apart : (used : List Bool) (place k : ℕ) → place < length used → is_used (set used place true) k ≡ false → k ≢ place
unused_apart used place k h is e =
    let bad : true ≡ false =
    sym (get_or-set_same used place true false h) ∙ (ap (λ (i : ℕ). get_or (set used place true) i false) (sym e) ∙ is) in
    absurd (cc)

used_apart : (used : List Bool) (place k : ℕ) → is_used used place ≡ false → is_used used k ≡ true → k ≢ place
used_apart used place k unused is e =
    let bad : true ≡ false = sym is ∙ (ap (λ (i : ℕ). get_or used i false) e ∙ unused) in
    absurd (cc)

-- ---- the columns that were gone through

pub IsReducedBelow-none : (m : Grid) (eqs others : List ℕ) → IsReducedBelow 0 m eqs others (replicate (length eqs) false) [] [] []
IsReducedBelow-none m eqs others = record {
  columns = AreSplit-none;
  pivots = record {
    sizes = refl;
    ones = λ i h. absurd (omega arith);
    zeros = λ i j h k apart. absurd (omega arith);
    left = λ i j h k. absurd (omega arith);
  };
  from_used = All-nil (IsUsedRow eqs (replicate (length eqs) false));
  rest = λ k h unused j w. absurd (omega arith);
  each = λ k h used.
      let bad : true ≡ false = sym used ∙ get_or-replicate (length eqs) k false false h in
      absurd (cc);
  cleared = λ k d h. All-nil (λ j. matrix_entry m (get_or others k d) j ≡ 0);
  places = length-replicate (length eqs) false;
}

-- a free column
IsReducedBelow-split : (c : ℕ) (m : Grid) (eqs others : List ℕ) (used : List Bool) (rows columns free : List ℕ) → IsReducedBelow c m eqs others used rows columns free
    → ((k : ℕ) → k < length eqs → is_used used k ≡ false → matrix_entry m (get_or eqs k 0) c ≡ 0)
    → IsReducedBelow (c + 1) m eqs others used rows columns (free ++ c ∷ [])
IsReducedBelow-split c m eqs others used rows columns free state none = record {
  columns = AreSplit-free c columns free state.columns;
  pivots = state.pivots;
  from_used = state.from_used;
  rest = λ k h unused j w. elim (cases_lt j c) [
    | inl before ↦ state.rest k h unused j before
    | inr past ↦ let e : j ≡ c = omega arith in ap (λ (i : ℕ). matrix_entry m (get_or eqs k 0) i) e ∙ none k h unused
  ];
  each = state.each;
  cleared = state.cleared;
  places = state.places;
}

-- by what was read and what was pushed
pub IsReducedBelow-free : (c : ℕ) (m : Grid) (eqs others : List ℕ) (used read : List Bool) (rows columns free pushed_free : List ℕ)
    → IsReducedBelow c m eqs others used rows columns free → read ≡ used
    → ((k : ℕ) → k < length eqs → is_used read k ≡ false → matrix_entry m (get_or eqs k 0) c ≡ 0)
    → pushed_free ≡ free ++ c ∷ []
    → IsReducedBelow (c + 1) m eqs others used rows columns pushed_free
IsReducedBelow-free c m eqs others used read rows columns free pushed_free state e none f =
    subst (IsReducedBelow (c + 1) m eqs others used rows columns) (sym f)
    (IsReducedBelow-split c m eqs others used rows columns free state
    (subst (λ (u : List Bool). (k : ℕ) → k < length eqs → is_used u k ≡ false → matrix_entry m (get_or eqs k 0) c ≡ 0) e none))

module _ (c place : ℕ) (m n : Grid) (before after : List Op) (eqs others : List ℕ) (used : List Bool) (rows columns free : List ℕ)
    (state : IsReducedBelow c m eqs others used rows columns free) (within : place < length eqs) (unused : is_used used place ≡ false) (column_within : c < m.cols)
    (did : ClearsColumn eqs others place c m n before after) where
  abbrev pivot : ℕ
  pivot = get_or eqs place 0

  unchanged : (r j : ℕ) → j < c → matrix_entry n r j ≡ matrix_entry m r j
  unchanged r j h = did.same r j (omega arith) (state.rest place within unused j h)

  below : (i : ℕ) → i < length columns → get_or columns i 0 < c
  below i h = state.columns.pivots_within i 0 h

  place_of_used : place < length used
  place_of_used = omega (arith, state.places)

  -- a row that had a pivot is 0 in the column
  cleared_pivot : (i : ℕ) → i < length columns → matrix_entry n (get_or rows i 0) c ≡ 0
  cleared_pivot i h =
      let is : IsUsedRow eqs used (get_or rows i 0) = state.from_used i 0 (omega (arith, state.pivots.sizes)) in
      subst (λ (r : ℕ). matrix_entry n r c ≡ 0) is.is (did.eqs_zero is.place is.within (used_apart used place is.place unused is.used_there))

  ones_after : (i : ℕ) → i < length (columns ++ c ∷ []) → matrix_entry n (get_or (rows ++ pivot ∷ []) i 0) (get_or (columns ++ c ∷ []) i 0) ≡ 1
  ones_after =
      pushed rows columns pivot c state.pivots.sizes (λ r j. matrix_entry n r j ≡ 1)
      (λ i h. unchanged (get_or rows i 0) (get_or columns i 0) (below i h) ∙ state.pivots.ones i h) did.one

  left_after : (i : ℕ) → i < length (columns ++ c ∷ []) → (j : ℕ) → j < get_or (columns ++ c ∷ []) i 0 → matrix_entry n (get_or (rows ++ pivot ∷ []) i 0) j ≡ 0
  left_after =
      pushed rows columns pivot c state.pivots.sizes (λ r column. (j : ℕ) → j < column → matrix_entry n r j ≡ 0)
      (λ i h j w. let here : get_or columns i 0 < c = below i h in unchanged (get_or rows i 0) j (omega arith) ∙ state.pivots.left i j h w)
      (λ j w. unchanged pivot j w ∙ state.rest place within unused j w)

  zeros_after : (i j : ℕ) → i < length (columns ++ c ∷ []) → j < length (columns ++ c ∷ []) → i ≢ j
      → matrix_entry n (get_or (rows ++ pivot ∷ []) i 0) (get_or (columns ++ c ∷ []) j 0) ≡ 0
  zeros_after i j h k apart =
      elim (place_in_push columns c i h) [
        | inl row_early ↦ elim (place_in_push columns c j k) [
          | inl early ↦
              entry (get_or rows i 0) (get_or columns j 0) (earlier_row rows columns pivot c state.pivots.sizes i row_early) (earlier_column rows columns pivot c state.pivots.sizes j early)
              (unchanged (get_or rows i 0) (get_or columns j 0) (below j early) ∙ state.pivots.zeros i j row_early early apart)
          | inr e ↦
              entry (get_or rows i 0) c (earlier_row rows columns pivot c state.pivots.sizes i row_early) (last_column rows columns pivot c state.pivots.sizes j e)
              (cleared_pivot i row_early)
        ]
        | inr row_last ↦ elim (place_in_push columns c j k) [
          | inl early ↦
              entry pivot (get_or columns j 0) (last_row rows columns pivot c state.pivots.sizes i row_last) (earlier_column rows columns pivot c state.pivots.sizes j early)
              (unchanged pivot (get_or columns j 0) (below j early) ∙ state.rest place within unused (get_or columns j 0) (below j early))
          | inr e ↦ absurd (apart (row_last ∙ sym e))
        ]
      ]
    where
      entry : (r column : ℕ) → get_or (rows ++ pivot ∷ []) i 0 ≡ r → get_or (columns ++ c ∷ []) j 0 ≡ column → matrix_entry n r column ≡ 0
          → matrix_entry n (get_or (rows ++ pivot ∷ []) i 0) (get_or (columns ++ c ∷ []) j 0) ≡ 0
      entry r column e f is_zero =
          ap (λ (x : ℕ). matrix_entry n x (get_or (columns ++ c ∷ []) j 0)) e ∙ (ap (matrix_entry n r) f ∙ is_zero)

  used_row_more : (r : ℕ) → IsUsedRow eqs used r → IsUsedRow eqs (set used place true) r
  used_row_more r is = record {
    place = is.place;
    within = is.within;
    used_there = used_more used place is.place place_of_used is.used_there;
    is = is.is;
  }

  -- a pivot column
  IsReducedBelow-more : IsReducedBelow (c + 1) n eqs others (set used place true) (rows ++ pivot ∷ []) (columns ++ c ∷ []) free
  IsReducedBelow-more = record {
    columns = AreSplit-pivot c columns free state.columns;
    pivots = record {
      sizes = length-append rows (pivot ∷ []) ∙ (ap (λ (k : ℕ). k + 1) state.pivots.sizes ∙ sym (length-append columns (c ∷ [])));
      ones = ones_after;
      zeros = zeros_after;
      left = λ i j h w. left_after i h j w;
    };
    from_used = All-push (IsUsedRow eqs (set used place true)) rows pivot
        (All-weaker (IsUsedRow eqs used) (IsUsedRow eqs (set used place true)) used_row_more rows state.from_used)
        (record { place = place; within = within; used_there = get_or-set_same used place true false place_of_used; is = refl });
    rest = λ k h unused_after j w.
        let apart : k ≢ place = unused_apart used place k place_of_used unused_after in
        elim (cases_lt j c) [
          | inl early ↦
              unchanged (get_or eqs k 0) j early ∙
              state.rest k h (sym (get_or-set_other used place k true false apart) ∙ unused_after) j early
          | inr past ↦ let e : j ≡ c = omega arith in ap (λ (i : ℕ). matrix_entry n (get_or eqs k 0) i) e ∙ did.eqs_zero k h apart
        ];
    each = λ k h used_after. elim (cases_eq k place) [
      | inl e ↦ subst (λ (i : ℕ). Contains (rows ++ pivot ∷ []) (get_or eqs i 0)) (sym e) (Contains-push rows pivot)
      | inr apart ↦
          Contains-append_left rows (pivot ∷ []) (get_or eqs k 0)
          (state.each k h (sym (get_or-set_other used place k true false apart) ∙ used_after))
    ];
    cleared = λ k d h. All-push (λ j. matrix_entry n (get_or others k d) j ≡ 0) columns c
        (λ i e w. unchanged (get_or others k d) (get_or columns i e) (state.columns.pivots_within i e w) ∙ state.cleared k d h i e w)
        (did.others_zero k d h);
    places = length-set used place true ∙ state.places;
  }

-- by what was read and what was pushed
pub IsReducedBelow-pivot : (c place : ℕ) (m n : Grid) (before after : List Op) (eqs others : List ℕ) (used read : List Bool) (rows columns free pushed_rows pushed_columns : List ℕ)
    → IsReducedBelow c m eqs others used rows columns free → read ≡ used → IsPivotPlace m eqs read c place → c < m.cols → ClearsColumn eqs others place c m n before after
    → pushed_rows ≡ rows ++ get_or eqs place 0 ∷ [] → pushed_columns ≡ columns ++ c ∷ []
    → IsReducedBelow (c + 1) n eqs others (set used place true) pushed_rows pushed_columns free
IsReducedBelow-pivot c place m n before after eqs others used read rows columns free pushed_rows pushed_columns state e found column_within did f h =
    let unused : is_used used place ≡ false = subst (λ (u : List Bool). is_used u place ≡ false) e found.unused in
    subst (λ (r : List ℕ). IsReducedBelow (c + 1) n eqs others (set used place true) r pushed_columns free) (sym f)
    (subst (λ (j : List ℕ). IsReducedBelow (c + 1) n eqs others (set used place true) (rows ++ get_or eqs place 0 ∷ []) j free) (sym h)
    (IsReducedBelow-more c place m n before after eqs others used rows columns free state found.within unused column_within did))

-- ---- all columns

module _ (eqs others : List ℕ) (used : List Bool) (dense : Dense)
    (state : IsReducedBelow dense.matrix.cols dense.matrix eqs others used dense.pivot_rows dense.pivot_columns dense.free)
    (rest : AreUnused (length eqs) eqs used dense.zero_rows) where
  pivots_are_eqs : All (Contains eqs) dense.pivot_rows
  pivots_are_eqs =
      All-weaker (IsUsedRow eqs used) (Contains eqs) (λ r is. subst (Contains eqs) is.is (Contains-get_or eqs is.place 0 is.within)) dense.pivot_rows state.from_used

  pivots_are_nonzero : All (λ r. ¬ IsZeroRow dense.matrix r) dense.pivot_rows
  pivots_are_nonzero =
      All-from_get_or (λ r. ¬ IsZeroRow dense.matrix r) dense.pivot_rows 0
      (λ i h is_zero.
      let at : i < length dense.pivot_columns = omega (arith, state.pivots.sizes) in
      let one : 1 ≡ 0 = sym (state.pivots.ones i at) ∙ is_zero (get_or dense.pivot_columns i 0) (state.columns.pivots_within i 0 at) in
      absurd (omega (arith, one)))

  unused_is_eq : (r : ℕ) → IsUnusedRow (length eqs) eqs used r → Contains eqs r
  unused_is_eq r is = subst (Contains eqs) is.is (Contains-get_or eqs is.place 0 is.within)

  unused_is_zero : (r : ℕ) → IsUnusedRow (length eqs) eqs used r → IsZeroRow dense.matrix r
  unused_is_zero r is = λ j w. subst (λ (k : ℕ). matrix_entry dense.matrix k j ≡ 0) is.is (state.rest is.place is.within is.unused j w)

  unused_of : (r : ℕ) → Contains dense.zero_rows r → IsUnusedRow (length eqs) eqs used r
  unused_of r has = All-contains (IsUnusedRow (length eqs) eqs used) dense.zero_rows r rest.are has

  each_eq : All (λ r. Contains dense.pivot_rows r ⊎ Contains dense.zero_rows r) eqs
  each_eq =
      All-from_get_or (λ r. Contains dense.pivot_rows r ⊎ Contains dense.zero_rows r) eqs 0
      (λ k h. elim (cases_bool (is_used used k)) [
        | inl is ↦ inl (state.each k h is)
        | inr is ↦ inr (rest.each k h is)
      ])

  zero_is_told : (r : ℕ) → Contains eqs r → IsZeroRow dense.matrix r → Contains dense.zero_rows r
  zero_is_told r has is_zero =
      elim (All-contains (λ k. Contains dense.pivot_rows k ⊎ Contains dense.zero_rows k) eqs r each_eq has) [
        | inl pivot ↦ absurd (All-contains (λ k. ¬ IsZeroRow dense.matrix k) dense.pivot_rows r pivots_are_nonzero pivot is_zero)
        | inr told ↦ told
      ]

  IsReduced-all : IsReduced eqs others dense
  IsReduced-all = record {
    columns = state.columns;
    pivots = state.pivots;
    zero_rows = record {
      are = λ r. (
        (λ has. (unused_is_eq r (unused_of r has), unused_is_zero r (unused_of r has))),
        (λ both. zero_is_told r both.0 both.1),
      );
      once = rest.once;
    };
    from_eqs = pivots_are_eqs;
    each = each_eq;
    apart = λ k d h has. pivots_are_nonzero k d h (unused_is_zero (get_or dense.pivot_rows k d) (unused_of (get_or dense.pivot_rows k d) has));
    cleared = state.cleared;
  }

pub IsReduced-done : (eqs others : List ℕ) (used : List Bool) (dense : Dense)
    → IsReducedBelow dense.matrix.cols dense.matrix eqs others used dense.pivot_rows dense.pivot_columns dense.free → AreUnused (length eqs) eqs used dense.zero_rows
    → IsReduced eqs others dense
IsReduced-done eqs others used dense state rest = IsReduced-all eqs others used dense state rest
