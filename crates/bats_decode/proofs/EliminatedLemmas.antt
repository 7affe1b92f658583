-- What the elimination of kept packets says of the symbols' values: by peeling, and the reduction of what is left over.
use Rattle.std.proofs.Common.{ℕ, suc, ◌≡◌, ◌<◌, ◌≤◌, ◌+◌, ◌*◌, ◌∙◌, inl, inr, List, ◌++◌, length, get_or, map, sym, ap, subst, arith, Vec, Global}
use Rattle.std.specs.Prelude.{All, Contains}
use Rattle.std.specs.List.{range_with_len}
use Rattle.std.proofs.Math.Nat.{mul-add}
use Rattle.std.proofs.lemmas.Nat.{mul-le}
use Rattle.std.proofs.lemmas.List.{length-map, get_or_default}
use Rattle.std.proofs.lemmas.List.Elements.{All-append, All-map, All-contains, Contains-get_or}
use Rattle.std.proofs.lemmas.List.FromFn.{length-map-range_with_len, get_or-map-range_with_len}
use Rattle.gf_core.specs.Bytes.{AreBytes}
use Rattle.gf_core.specs.Field.{gf_add, gf_mul, gf_sum}
use Rattle.gf_core.proofs.AddLemmas.{gf_add-lt, zero-gf_add}
use Rattle.gf_core.proofs.SumLemmas.{gf_sum-lt, gf_sum-congruence, gf_sum-zeros}
use Rattle.gf_core.proofs.ProductLemmas.{gf_mul-lt, zero-gf_mul}
use Rattle.gf_core.proofs.RowLemmas.{byte_at}
use Rattle.gf_rows.specs.declared.operation.Op.{Op}
use Rattle.gf_rows.specs.Matrix.{matrix_entry}
use Rattle.gf_rows.specs.Operation.{IsRowOperation, HasByteFactor, FitsRows}
use Rattle.gf_rows.specs.Plan.{IsPlan, plan_on_column}
use Rattle.gf_rows.specs.Performed.{Performed}
use Rattle.gf_rows.specs.Equations.{AreValues, row_value, row_result, Solves}
use Rattle.gf_rows.proofs.PlanLemmas.{plan_on_column-lt}
use Rattle.gf_rows.proofs.SolutionLemmas.{length-performed, IsMatrix-performed}
use Rattle.bats_model.specs.Session.{SessionData, IsPadded, symbols_of}
use Rattle.bats_model.specs.Values.{packet_value, AreByteValues, Satisfies}
use Rattle.bats_model.specs.Peeling.{IsInactiveList}
use Rattle.bats_model.specs.declared.packet.Packet.{Packet}
use Rattle.bats_model.proofs.SymbolValues.{combined_value-lt}
use Rattle.bats_dense.specs.declared.dense.Dense.{Dense}
use Rattle.bats_dense.specs.Reduced.{IsReduced}
use Rattle.bats_dense.specs.Kept.{KeepsSolutions}
use Rattle.bats_dense.specs.Completed.{free_value, IsCompleted}
use Rattle.bats_dense.proofs.Completing.{gf_sum-split, Solves-completed}
use Rattle.bats_dense.proofs.ResultLemmas.{ArePivots-last}
use Rattle.bats_peel.specs.declared.peeled.Place.{Place}
use Rattle.bats_peel.specs.declared.peeled.Place.TheVariants.{Row as OwnRow, Column}
use Rattle.bats_peel.specs.declared.peeled.Peeled.{Peeled}
use Rattle.bats_peel.specs.Peeled.{column_values, GiveSymbols, IsPeeled}
use Rattle.bats_peel.specs.Peeled.{place_of}
use Rattle.bats_decode.specs.declared.elimination.Origin.{Origin}
use Rattle.bats_decode.specs.declared.elimination.Origin.TheVariants.{Row, Free}
use Rattle.bats_decode.specs.declared.elimination.Elimination.{Elimination}
use Rattle.bats_decode.specs.steps.Left.{AreOwnRows, origin_after}
use Rattle.bats_decode.specs.steps.Eliminated.{AreOrigins, origin_of, IsOriginWithin, IsShaped, free_entry, free_sum, value_at, values_from, AreZeroAfter, ComesFrom, IsEliminated}
use Rattle.bats_decode.proofs.LeftLemmas.{left_kind, no_row_at_column, row-within, at-column, LastIs, last-column}
use Rattle.bats_decode.proofs.OriginLemmas.{pivot-apart}

-- ---- the operations

-- at most as many for each row as the largest degree, and as there are columns
pub plan-within : (new old before after left others cols rows degree : ℕ) → new + before ≡ old + after
    → new ≤ old + (left + others) * cols → left + others ≤ rows → before ≤ rows * degree → after ≤ rows * (degree + cols)
plan-within new old before after left others cols rows degree counted steps few peeled =
    omega (arith, counted, steps, peeled, mul-le (left + others) cols rows cols few (omega arith), mul-add rows degree cols)

both-plans : (first second : List Op) → IsPlan first → IsPlan second → IsPlan (first ++ second)
both-plans first second one other = record {
  rule = All-append IsRowOperation first second one.rule other.rule;
  bytes = All-append HasByteFactor first second one.bytes other.bytes;
}

-- ---- origins

abbrev row_of : Origin → ℕ
row_of (Row r) = r
row_of (Free i) = 0

abbrev column_left : Place → ℕ
column_left (OwnRow r) = 0
column_left (Column j) = j

abbrev is_row : Origin → ℕ
is_row (Row r) = 1
is_row (Free i) = 0

-- by what was read: each list that was lent is that of the reduction
pub AreOrigins-read : (count symbols : ℕ) (read_rows read_columns read_free rows columns free : List ℕ) (origins : List Origin)
    → count ≡ symbols → read_rows ≡ rows → read_columns ≡ columns → read_free ≡ free
    → AreOrigins count read_rows read_columns read_free origins → AreOrigins symbols rows columns free origins
AreOrigins-read count symbols read_rows read_columns read_free rows columns free origins e f g h placed =
    subst (λ (n : ℕ). AreOrigins n rows columns free origins) e
    (subst (λ (xs : List ℕ). AreOrigins count xs columns free origins) f
    (subst (λ (xs : List ℕ). AreOrigins count read_rows xs free origins) g
    (subst (λ (xs : List ℕ). AreOrigins count read_rows read_columns xs origins) h placed)))

-- the elimination that a reduction and the origins give
abbrev pub elimination_of : Dense → Vec Origin Global → Elimination
elimination_of dense origins = record {
  matrix = dense.matrix;
  plan = dense.plan;
  origins = origins;
  free = dense.free;
  zero_rows = dense.zero_rows;
}

-- ---- what satisfies packets

column_length : (session : SessionData) (packets : List Packet) (column : List ℕ) (x : ℕ → ℕ) → Satisfies session packets column x
    → length column ≡ length packets
column_length session packets column x satisfies =
    ap (λ (xs : List ℕ). length xs) (sym satisfies.values) ∙ length-map packets (λ (packet : Packet). packet_value session packet x)

column_bytes : (session : SessionData) (packets : List Packet) (column : List ℕ) (x : ℕ → ℕ) → Satisfies session packets column x
    → AreBytes column
column_bytes session packets column x satisfies =
    subst AreBytes satisfies.values
    (All-map (λ byte. byte < 256) (λ (packet : Packet). packet_value session packet x) packets
    (λ i d h. combined_value-lt session (get_or packets i d).batch (get_or packets i d).coefs x satisfies.bytes))

named : (xs : List ℕ) (s : ℕ) (has : Contains xs s) → get_or xs has.0 0 ≡ s
named xs s has = get_or_default xs has.0 0 s has.1 ∙ has.2

-- ---- peeled and reduced

module _ (session : SessionData) (received packets : List Packet) (peeled : Peeled) (dense : Dense) (columns : List Origin)
    (origins : Vec Origin Global) (others : List ℕ)
    (listed : IsInactiveList session received peeled.inactive) (is : IsPeeled session packets peeled)
    (own : AreOwnRows (symbols_of session) peeled.places others) (reduced : IsReduced peeled.leftover others dense)
    (did : Performed peeled.leftover peeled.rows dense.matrix peeled.plan dense.plan)
    (keeps : KeepsSolutions peeled.leftover peeled.rows dense.matrix peeled.plan dense.plan)
    (fits : All (FitsRows (length dense.matrix.rows)) dense.plan)
    (at_columns : AreOrigins (length peeled.columns) dense.pivot_rows dense.pivot_columns dense.free columns)
    (placed : origins.items ≡ map (λ s. origin_after columns (place_of peeled.places s)) (range_with_len 0 (symbols_of session))) where
  abbrev eliminated : Elimination
  eliminated = elimination_of dense origins

  cols : dense.matrix.cols ≡ length peeled.columns
  cols = did.cols ∙ is.placed.cols

  row_total : length dense.matrix.rows ≡ length packets
  row_total = length-performed did ∙ is.placed.row_count

  left_within : (r : ℕ) → Contains peeled.leftover r → r < length packets
  left_within r has = All-contains (λ k. k < length packets) peeled.leftover r is.placed.leftover_within has

  pivot_within : (i : ℕ) → i < length dense.pivot_columns → get_or dense.pivot_columns i 0 < length peeled.columns
  pivot_within i h = subst (λ (n : ℕ). get_or dense.pivot_columns i 0 < n) cols (reduced.columns.pivots_within i 0 h)

  free_within : (i : ℕ) → i < length dense.free → get_or dense.free i 0 < length peeled.columns
  free_within i h = subst (λ (n : ℕ). get_or dense.free i 0 < n) cols (reduced.columns.free_within i 0 h)

  pivot_row_within : (i : ℕ) → i < length dense.pivot_columns → get_or dense.pivot_rows i 0 < length packets
  pivot_row_within i h = left_within (get_or dense.pivot_rows i 0) (reduced.from_eqs i 0 (omega (arith, h, reduced.pivots.sizes)))

  -- ---- the origins of the symbols

  origin_at : (s : ℕ) → s < symbols_of session → origin_of eliminated s ≡ origin_after columns (place_of peeled.places s)
  origin_at s h =
      ap (λ (ps : List Origin). get_or ps s (Row 0)) placed ∙
      get_or-map-range_with_len (λ k. origin_after columns (place_of peeled.places k)) 0 (symbols_of session) s s (Row 0) h (omega arith)

  origin_at_own : (s r : ℕ) → s < symbols_of session → place_of peeled.places s ≡ OwnRow r → origin_of eliminated s ≡ Row r
  origin_at_own s r h at = origin_at s h ∙ ap (origin_after columns) at

  origin_at_column : (s j : ℕ) → s < symbols_of session → place_of peeled.places s ≡ Column j
      → origin_of eliminated s ≡ get_or columns j (Row 0)
  origin_at_column s j h at = origin_at s h ∙ ap (origin_after columns) at

  -- the origin of a column's symbol
  origin_of_column : (j : ℕ) → j < length peeled.columns → origin_of eliminated (get_or peeled.columns j 0) ≡ get_or columns j (Row 0)
  origin_of_column j h = origin_at_column (get_or peeled.columns j 0) j (is.placed.columns_below j 0 h) (is.placed.at_columns j h)

  -- what holds of each symbol and its origin: of one that has its own row, of one at a pivot column, and of a free one
  by_kind : (P : ℕ → Origin → Type 0)
      → ((s r : ℕ) → s < symbols_of session → place_of peeled.places s ≡ OwnRow r → P s (Row r))
      → ((s i : ℕ) → i < length dense.pivot_columns → get_or peeled.columns (get_or dense.pivot_columns i 0) 0 ≡ s
      → P s (Row (get_or dense.pivot_rows i 0)))
      → ((s i : ℕ) → i < length dense.free → get_or peeled.columns (get_or dense.free i 0) 0 ≡ s → P s (Free i))
      → (s : ℕ) → s < symbols_of session → P s (origin_of eliminated s)
  by_kind P of_own of_pivot of_free s h = elim (left_kind (place_of peeled.places s)) [
    | inl left ↦ subst (P s) (sym (origin_at_own s left.0 h left.1)) (of_own s left.0 h left.1)
    | inr left ↦
        let j : ℕ = left.0 in
        let column = at-column session (length packets) peeled is.placed s j h left.1 in
        elim (reduced.columns.each j (subst (λ (n : ℕ). j < n) (sym cols) column.0)) [
          | inl has ↦
              let name : get_or dense.pivot_columns has.0 0 ≡ j = named dense.pivot_columns j has in
              let origin : origin_of eliminated s ≡ Row (get_or dense.pivot_rows has.0 0) =
              origin_at_column s j h left.1 ∙ (ap (λ (k : ℕ). get_or columns k (Row 0)) (sym name) ∙ at_columns.pivots has.0 has.1) in
              subst (P s) (sym origin)
              (of_pivot s has.0 has.1 (ap (λ (k : ℕ). get_or peeled.columns k 0) name ∙ column.1))
          | inr has ↦
              let name : get_or dense.free has.0 0 ≡ j = named dense.free j has in
              let origin : origin_of eliminated s ≡ Free has.0 =
              origin_at_column s j h left.1 ∙ (ap (λ (k : ℕ). get_or columns k (Row 0)) (sym name) ∙ at_columns.columns has.0 has.1) in
              subst (P s) (sym origin)
              (of_free s has.0 has.1 (ap (λ (k : ℕ). get_or peeled.columns k 0) name ∙ column.1))
        ]
  ]

  shape : IsShaped session (length packets) eliminated
  shape = record {
    matrix = IsMatrix-performed did is.placed.matrix;
    row_count = row_total;
    origins =
        ap (λ (ps : List Origin). length ps) placed ∙
        length-map-range_with_len (λ s. origin_after columns (place_of peeled.places s)) 0 (symbols_of session);
    origins_within = by_kind (λ s. IsOriginWithin (length packets) (length dense.free))
        (λ s r h at. row-within session (length packets) peeled is.placed s r h at)
        (λ s i h e. pivot_row_within i h)
        (λ s i h e. h);
    free_within = reduced.columns.free_within;
    zero_within = λ k d h.
        let r : ℕ = get_or dense.zero_rows k d in
        left_within r ((reduced.zero_rows.are r).0 (Contains-get_or dense.zero_rows k d h)).0;
    fits = subst (λ (n : ℕ). All (FitsRows n) dense.plan) row_total fits;
    plan = subst IsPlan (sym did.plan) (both-plans peeled.plan did.ops is.placed.plan did.is);
  }

  -- ---- the rows that symbols have of their own

  -- such a row is 0 at the pivot columns
  cleared_value : (y : ℕ → ℕ) (r : ℕ) → Contains others r → row_value dense.matrix y r ≡ free_value dense y r
  cleared_value y r has =
      let product : ℕ → ℕ = λ j. gf_mul (matrix_entry dense.matrix r j) (y j) in
      let at_pivots : gf_sum (length dense.pivot_columns) (λ i. product (get_or dense.pivot_columns i 0)) ≡ 0 =
      gf_sum-zeros (length dense.pivot_columns) (λ i. product (get_or dense.pivot_columns i 0))
      (λ i h.
      ap (λ entry. gf_mul entry (y (get_or dense.pivot_columns i 0)))
      (All-contains (λ k. All (λ j. matrix_entry dense.matrix k j ≡ 0) dense.pivot_columns) others r reduced.cleared has i 0 h) ∙
      zero-gf_mul (y (get_or dense.pivot_columns i 0))) in
      gf_sum-split dense.matrix.cols dense.pivot_columns dense.free reduced.columns product ∙
      (ap (λ (x : ℕ). gf_add x (free_value dense y r)) at_pivots ∙ zero-gf_add (free_value dense y r))

  -- what it gives after the reduction
  own_result : (after : List ℕ) (y : ℕ → ℕ) (s r : ℕ) → s < symbols_of session → place_of peeled.places s ≡ OwnRow r
      → row_result dense.matrix after y r ≡ gf_add (get_or after r 0) (free_value dense y r)
  own_result after y s r h at = ap (gf_add (get_or after r 0)) (cleared_value y r (own.each s r h at))

  column_values-bytes : (x : ℕ → ℕ) → AreByteValues session x → AreValues peeled.rows.cols (column_values peeled x)
  column_values-bytes x bytes j h =
      bytes (get_or peeled.columns j 0) (is.placed.columns_below j 0 (subst (λ (n : ℕ). j < n) is.placed.cols h))

  long_as_rows : (column : List ℕ) → length column ≡ length packets → length column ≡ length peeled.rows.rows
  long_as_rows column long = long ∙ sym is.placed.row_count

  -- ---- any values of the free symbols

  module _ (column : List ℕ) (v : ℕ → ℕ) (long : length column ≡ length packets) (bytes : AreBytes column)
      (below : AreValues (length dense.free) v) where
    abbrev after : List ℕ
    after = plan_on_column dense.plan column

    abbrev made : ℕ → ℕ
    made = values_from eliminated after v

    abbrev made_column : ℕ → ℕ
    made_column = column_values peeled made

    row_sum_bytes : (r : ℕ) → gf_add (get_or after r 0) (free_sum eliminated r v) < 256
    row_sum_bytes r =
        gf_add-lt (get_or after r 0) (free_sum eliminated r v) (byte_at after r (plan_on_column-lt dense.plan column bytes))
        (gf_sum-lt (length dense.free) (λ i. gf_mul (free_entry eliminated r i) (v i))
        (λ i w. gf_mul-lt (free_entry eliminated r i) (v i) (below i w)))

    made_bytes : AreByteValues session made
    made_bytes = by_kind (λ s origin. value_at eliminated after v origin < 256)
        (λ s r h at. row_sum_bytes r)
        (λ s i h e. row_sum_bytes (get_or dense.pivot_rows i 0))
        (λ s i h e. below i h)

    made_at_pivot : (i : ℕ) → i < length dense.pivot_columns → made_column (get_or dense.pivot_columns i 0)
        ≡ gf_add (get_or after (get_or dense.pivot_rows i 0) 0) (free_sum eliminated (get_or dense.pivot_rows i 0) v)
    made_at_pivot i h =
        ap (value_at eliminated after v)
        (origin_of_column (get_or dense.pivot_columns i 0) (pivot_within i h) ∙ at_columns.pivots i h)

    made_at_free : (i : ℕ) → i < length dense.free → made_column (get_or dense.free i 0) ≡ v i
    made_at_free i h =
        ap (value_at eliminated after v) (origin_of_column (get_or dense.free i 0) (free_within i h) ∙ at_columns.columns i h)

    made_sum : (r : ℕ) → free_sum eliminated r v ≡ free_value dense made_column r
    made_sum r =
        gf_sum-congruence (length dense.free) (λ i. gf_mul (free_entry eliminated r i) (v i))
        (λ i. gf_mul (matrix_entry dense.matrix r (get_or dense.free i 0)) (made_column (get_or dense.free i 0)))
        (λ i h. ap (gf_mul (free_entry eliminated r i)) (sym (made_at_free i h)))

    made_completed : AreZeroAfter eliminated after → IsCompleted dense after made_column
    made_completed zeros = record {
      zero_rows = zeros;
      pivots = λ i h.
          made_at_pivot i h ∙
          ap (gf_add (get_or after (get_or dense.pivot_rows i 0) 0)) (made_sum (get_or dense.pivot_rows i 0));
    }

    made_solves : AreZeroAfter eliminated after → Solves peeled.rows (plan_on_column peeled.plan column) peeled.leftover made_column
    made_solves zeros =
        (keeps.solutions column made_column (long_as_rows column long) bytes (column_values-bytes made made_bytes)).1
        ((Solves-completed peeled.leftover others after dense made_column reduced).1 (made_completed zeros))

    made_gives : AreZeroAfter eliminated after → GiveSymbols session peeled (plan_on_column peeled.plan column) made
    made_gives zeros s r h at =
        ap (value_at eliminated after v) (origin_at_own s r h at) ∙
        (ap (gf_add (get_or after r 0)) (made_sum r) ∙
        (sym (own_result after made_column s r h at) ∙
        keeps.results column made_column r (long_as_rows column long) (column_values-bytes made made_bytes) (made_solves zeros)))

    made_satisfies : AreZeroAfter eliminated after → Satisfies session packets column made
    made_satisfies zeros = (is.solutions column made long bytes made_bytes).1 (made_gives zeros, made_solves zeros)

  -- ---- values that satisfy

  module _ (column : List ℕ) (x : ℕ → ℕ) (satisfies : Satisfies session packets column x) where
    abbrev y : ℕ → ℕ
    y = column_values peeled x

    abbrev done : List ℕ
    done = plan_on_column dense.plan column

    length_is : length column ≡ length packets
    length_is = column_length session packets column x satisfies

    peeled_both : GiveSymbols session peeled (plan_on_column peeled.plan column) x
        × Solves peeled.rows (plan_on_column peeled.plan column) peeled.leftover y
    peeled_both =
        (is.solutions column x length_is (column_bytes session packets column x satisfies) satisfies.bytes).0 satisfies

    completed : IsCompleted dense done y
    completed =
        (Solves-completed peeled.leftover others done dense y reduced).0
        ((keeps.solutions column y (long_as_rows column length_is) (column_bytes session packets column x satisfies)
        (column_values-bytes x satisfies.bytes)).0 peeled_both.1)

    own_value : (s r : ℕ) → s < symbols_of session → place_of peeled.places s ≡ OwnRow r
        → x s ≡ gf_add (get_or done r 0) (free_value dense y r)
    own_value s r h at =
        peeled_both.0 s r h at ∙
        (sym (keeps.results column y r (long_as_rows column length_is) (column_values-bytes x satisfies.bytes) peeled_both.1) ∙
        own_result done y s r h at)

    came_from : ComesFrom session eliminated done x
    came_from = record {
      free = λ i. y (get_or dense.free i 0);
      bytes = λ i h. satisfies.bytes (get_or peeled.columns (get_or dense.free i 0) 0)
          (is.placed.columns_below (get_or dense.free i 0) 0 (free_within i h));
      each = by_kind (λ s origin. x s ≡ value_at eliminated done (λ i. y (get_or dense.free i 0)) origin)
          (λ s r h at. own_value s r h at)
          (λ s i h e. ap x (sym e) ∙ completed.pivots i h)
          (λ s i h e. ap x (sym e));
    }

  -- ---- the last symbol of a padded session

  module _ (padded : IsPadded session) where
    last_origin : (s : ℕ) → suc s ≡ symbols_of session → LastIs peeled.columns s
    last_origin s last =
        subst (λ (xs : List ℕ). LastIs xs s) (sym is.placed.columns)
        (last-column session peeled.inactive s padded last listed.inactive.begins)

    last_left : (s : ℕ) (last : suc s ≡ symbols_of session) → place_of peeled.places s ≡ Column (last_origin s last).0
    last_left s last =
        let at : LastIs peeled.columns s = last_origin s last in
        ap (place_of peeled.places) (sym at.2) ∙ is.placed.at_columns at.0 (omega (arith, at.1))

    -- where it is at a pivot column, that is the last
    pivot_is_last : (s p : ℕ) → p < length dense.pivot_columns → get_or peeled.columns (get_or dense.pivot_columns p 0) 0 ≡ s
        → (last : suc s ≡ symbols_of session) → get_or dense.pivot_columns p 0 ≡ (last_origin s last).0
    pivot_is_last s p h e last =
        ap column_left
        (sym (is.placed.at_columns (get_or dense.pivot_columns p 0) (pivot_within p h)) ∙
        (ap (place_of peeled.places) e ∙ last_left s last))

  -- it is the last column, so its row is 0 at all others
  last_alone : IsPadded session → (s : ℕ) → s < symbols_of session → suc s ≡ symbols_of session → (r i : ℕ)
      → origin_of eliminated s ≡ Row r → i < length dense.free → free_entry eliminated r i ≡ 0
  last_alone padded =
      by_kind (λ s origin. suc s ≡ symbols_of session → (r i : ℕ) → origin ≡ Row r → i < length dense.free → free_entry eliminated r i ≡ 0)
      (λ s k h own_at last r i at w. absurd (no_row_at_column (place_of peeled.places s) k (last_origin padded s last).0 own_at (last_left padded s last)))
      (λ s p h e last r i at w.
      let row : get_or dense.pivot_rows p 0 ≡ r = ap row_of at in
      let column : get_or dense.pivot_columns p 0 ≡ (last_origin padded s last).0 = pivot_is_last padded s p h e last in
      subst (λ (k : ℕ). matrix_entry dense.matrix k (get_or dense.free i 0) ≡ 0) row
      (ArePivots-last dense.matrix dense.pivot_rows dense.pivot_columns p (get_or dense.free i 0) reduced.pivots h
      (omega (arith, column, (last_origin padded s last).1, cols)) (reduced.columns.free_within i 0 w)
      (λ f. pivot-apart dense.matrix.cols dense.pivot_columns dense.free p i reduced.columns h w (sym f))))
      (λ s k h e last r i at w.
      let bad : 0 ≡ 1 = ap is_row at in
      absurd (omega (arith, bad)))

  pub IsEliminated-peeled : IsEliminated session packets eliminated
  IsEliminated-peeled = record {
    shape = shape;
    makes = λ column v long bytes below zeros. made_satisfies column v long bytes below zeros;
    zero = λ column x satisfies. (completed column x satisfies).zero_rows;
    comes = λ column x satisfies. came_from column x satisfies;
    last = λ s r i padded last at h. last_alone padded s (omega (arith, last)) last r i at h;
  }
