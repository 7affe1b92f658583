-- How the operations begin, which steps are left, and what is reached at their end.
use Rattle.std.proofs.Common.{ℕ, zero, suc, ◌≡◌, ◌≢◌, ◌<◌, ◌≤◌, ◌+◌, ◌-◌, ◌*◌, ◌∙◌, ◌⊎◌, ◌↔◌, inl, inr, Bool, true, false, List, [], ◌∷◌, ◌++◌, length, get_or, set, take, drop, replicate, sym, ap, refl, subst, arith}
use Rattle.std.specs.Prelude.{◌%◌, ◌==◌, ◌||◌, All, AllPairs, Contains, map, if◌then◌else◌, slice_get, Some, flat_map}
use Rattle.std.specs.List.{range_with_len, list_any}
use Rattle.std.proofs.lemmas.Bool.{cases_lt, eqb-true, false_from_ne_true, true≢false}
use Rattle.std.proofs.lemmas.List.{get_or_default, ext_get_or, length-map, length-replicate, get_or-map, get_or-replicate, get_or_past, get_or-append-add, get_or_append_left, get_or-set_other}
use Rattle.std.proofs.lemmas.List.FromFn.{length-map-range_with_len, get_or-map-range_with_len}
use Rattle.std.proofs.lemmas.List.Concat.{flat_map-cons}
use Rattle.std.proofs.lemmas.List.Folds.{list_any_none, list_any-append}
use Rattle.std.proofs.lemmas.List.Sums.{sum_by-cons}
use Rattle.std.proofs.lemmas.List.Elements.{All-map, All-contains, Contains-get_or, All-nil, All-replicate, All-head, All-tail, All-append, All-cons}
use Rattle.std.proofs.lemmas.Option.{get_or_from_slice_get, slice_get_within}
use Rattle.std.proofs.lemmas.List.Quantifiers.{all_pairs_push}
use Rattle.std.proofs.Math.Nat.{mul-le-mul_right}
use Rattle.std.proofs.lemmas.Grind.{get_or_default_zero}
use Rattle.gf_core.specs.Field.{gf_add, gf_mul}
use Rattle.gf_core.specs.Bytes.{AreBytes}
use Rattle.gf_core.proofs.AddLemmas.{gf_add-zero, gf_add-eq-zero, gf_add_cancel_right}
use Rattle.gf_core.proofs.SumLemmas.{gf_sum-zeros, gf_sum-lt}
use Rattle.gf_core.proofs.ProductLemmas.{zero-gf_mul, gf_mul-lt}
use Rattle.gf_rows.specs.Matrix.{Grid, IsMatrix}
use Rattle.gf_rows.specs.Equations.{row_value, Solves}
use Rattle.gf_rows.specs.Operation.{FitsRows}
use Rattle.gf_rows.specs.Plan.{IsPlan, plan_on_column}
use Rattle.gf_rows.proofs.PlanLemmas.{plan_on_column-nil, length-plan_on_column}
use Rattle.gf_rows.proofs.SolutionLemmas.{plan_on_column-injective}
use Rattle.bats_model.specs.Session.{SessionData, symbols_of}
use Rattle.bats_model.specs.Batch.{batch_of, degree_of, contributor_of, entry_of}
use Rattle.bats_model.specs.Values.{coded_value, combined_value, packet_value, AreByteValues, Satisfies}
use Rattle.bats_model.specs.Peeling.{is_in, with_symbols, set_of, HasAllSymbols}
use Rattle.bats_model.specs.declared.packet.Packet.{Packet}
use Rattle.bats_model.proofs.EachBatch.{contributor_of-lt}
use Rattle.bats_batch.specs.Held.{HeldBatch, batch_at, kept_packets, max_kept, row_count}
use Rattle.bats_peel.proofs.LocalLemmas.{row_count-room}
use Rattle.bats_peel.specs.declared.local.Local.{Local}
use Rattle.bats_peel.specs.declared.order.Step.{Step}
use Rattle.bats_peel.specs.declared.peeled.Place.{Place}
use Rattle.bats_peel.specs.declared.peeled.Place.TheVariants.{Row, Column}
use Rattle.bats_peel.specs.declared.peeled.Peeled.{Peeled}
use Rattle.bats_peel.specs.declared.work.Work.{Work}
use Rattle.bats_peel.specs.Peeled.{place_of, columns_of, StandsAt, IsPlaced, GiveSymbols, IsPeeled}
use Rattle.bats_peel.specs.steps.Fixing.{IsFixing}
use Rattle.bats_peel.specs.steps.Order.{AreSteps}
use Rattle.bats_peel.specs.steps.Parts.{place_value}
use Rattle.bats_peel.specs.steps.Work.{first_row, rank_of, place_in, is_known, is_taken, packet_column, inactive_values, given_by, StandsIn, IsWork, GivesPlaces, taken_rows, AreDegreesWithin}
use Rattle.bats_peel.proofs.PartLemmas.{count_true-others}
use Rattle.bats_batch.proofs.HeldNumbers.{length-kept_packets}
use Rattle.bats_peel.proofs.WorkLemmas.{find_symbol}
use Rattle.bats_peel.proofs.StepLemmas.{any_at, names_at}

-- ---- the steps that are left

pub steps_from : (session : SessionData) (locals : List Local) (known : List Bool) (steps : List Step) (i : ℕ) (d : Step) → i < length steps
    → AreSteps session locals known (drop i steps)
    → (local : Local) × ((slice_get locals (get_or steps i d).place ≡ Some local) × (IsFixing local known (get_or steps i d).fixing
    × AreSteps session locals (with_symbols session known local.batch.contributors) (drop (suc i) steps)))
steps_from session locals known [] i d within are = absurd (omega (arith, within))
steps_from session locals known (step ∷ steps) zero d within are = are
steps_from session locals known (step ∷ steps) (suc i) d within are = steps_from session locals known steps i d (omega (arith, within)) are

-- ---- packets by their rows

pub kept_packets-at : (batches : List HeldBatch) (b i : ℕ) (d : Packet) → b < length batches → i < rank_of batches b
    → get_or (kept_packets batches) (first_row batches b + i) d ≡ get_or (batch_at batches b).kept i d
unfolding kept_packets
kept_packets-at [] b i d within low = absurd (omega (arith, within))
kept_packets-at (batch ∷ batches) zero i d within low =
    ap (λ (xs : List Packet). get_or xs (0 + i) d) (flat_map-cons (λ (h : HeldBatch). h.kept) batch batches)
    ∙ ap (λ (k : ℕ). get_or (batch.kept ++ flat_map (λ (h : HeldBatch). h.kept) batches) k d) (omega arith)
    ∙ get_or_append_left batch.kept (flat_map (λ (h : HeldBatch). h.kept) batches) d i low
kept_packets-at (batch ∷ batches) (suc b) i d within low =
    let rest : List Packet = flat_map (λ (h : HeldBatch). h.kept) batches in
    let at : first_row (batch ∷ batches) (suc b) + i ≡ length batch.kept + (first_row batches b + i) =
    omega (arith, sum_by-cons (λ (h : HeldBatch). length h.kept) batch (take b batches)) in
    ap (λ (xs : List Packet). get_or xs (first_row (batch ∷ batches) (suc b) + i) d) (flat_map-cons (λ (h : HeldBatch). h.kept) batch batches)
    ∙ ap (λ (k : ℕ). get_or (batch.kept ++ rest) k d) at
    ∙ get_or-append-add batch.kept rest (first_row batches b + i) d
    ∙ kept_packets-at batches b i d (omega (arith, within)) low

-- each row is one of a batch
row_of_batch : (batches : List HeldBatch) (r : ℕ) → r < row_count batches
    → (b : ℕ) × (b < length batches) × (i : ℕ) × (i < rank_of batches b) × (first_row batches b + i ≡ r)
row_of_batch [] r within = absurd (omega (arith, within))
row_of_batch (batch ∷ batches) r within =
    let all : row_count (batch ∷ batches) ≡ length batch.kept + row_count batches = sum_by-cons (λ (h : HeldBatch). length h.kept) batch batches in
    elim (cases_lt r (length batch.kept)) [
      | inl low ↦ (0, omega arith, r, low, omega arith)
      | inr high ↦
          let found = row_of_batch batches (r - length batch.kept) (omega (arith, within, high, all)) in (
            suc found.0,
            omega (arith, found.1),
            found.2,
            found.3,
            omega (arith, sum_by-cons (λ (h : HeldBatch). length h.kept) batch (take found.0 batches), found.4, high),
          )
    ]

-- ---- the begin

zeros-row_value : (cols n i : ℕ) (x : ℕ → ℕ) → row_value (record { cols = cols; rows = replicate n (replicate cols 0) }) x i ≡ 0
zeros-row_value cols n i x =
    let row : List ℕ = replicate cols 0 in
    let rows : List (List ℕ) = replicate n row in
    gf_sum-zeros cols (λ j. gf_mul (get_or (get_or rows i []) j 0) (x j)) (λ j l.
    let zero_entry : get_or (get_or rows i []) j 0 ≡ 0 = elim (cases_lt i n) [
      | inl within ↦ ap (λ (ys : List ℕ). get_or ys j 0) (get_or-replicate n i row [] within) ∙ get_or-replicate cols j 0 0 l
      | inr past ↦ ap (λ (ys : List ℕ). get_or ys j 0) (get_or_past rows i [] (omega (arith, length-replicate n row)))
    ] in
    ap (λ (y : ℕ). gf_mul y (x j)) zero_entry ∙ zero-gf_mul (x j))

is_row : Place → Bool
is_row (Row r) = true
is_row (Column j) = false

column_no_row : (j r : ℕ) → Column j ≢ Row r
unfolding is_row
column_no_row j r e = true≢false (sym (ap is_row e))

-- a symbol that is known at the begin is at its column
at_column : (n s : ℕ) (columns : List ℕ) (places : List Place) (known : List Bool) → s < n
    → GivesPlaces (length columns) (λ j. get_or columns j 0) (λ j. Column j) (replicate n (Row 0)) (replicate n false) places known
    → is_in known s ≡ true → (j : ℕ) × (j < length columns) × (get_or columns j 0 ≡ s) × (place_of places s ≡ Column j)
at_column n s columns places known below gives is =
    elim (find_symbol (length columns) (λ j. get_or columns j 0) s) [
      | inl found ↦ (found.0, found.1, found.2, ap (place_of places) (sym found.2) ∙ (gives.here found.0 found.1).1)
      | inr none ↦ absurd (true≢false (sym is ∙ (gives.others s none).0 ∙ get_or-replicate n s false false below))
    ]

pub IsWork-begun : (session : SessionData) (batches : List HeldBatch) (w : Work) (rows : ℕ) → rows ≡ row_count batches → row_count batches ≤ max_kept
    → All (λ s. s < symbols_of session) w.columns
    → GivesPlaces (length w.columns) (λ j. get_or w.columns j 0) (λ j. Column j) (replicate (symbols_of session) (Row 0)) (replicate (symbols_of session) false)
    w.places.items w.known.items
    → w.matrix ≡ record { cols = length w.columns; rows = replicate rows (replicate (length w.columns) 0) } → w.plan ≡ [] → w.leftover ≡ []
    → w.taken.items ≡ replicate (length batches) false → IsWork session batches w
IsWork-begun session batches w rows count limit below gives zeros no_plan no_rows none_taken =
    let n : ℕ = symbols_of session in
    let cols : ℕ = length w.columns in
    let none_left : (r : ℕ) → ¬ Contains w.leftover r = λ r has. omega (arith, has.1, ap (λ (xs : List ℕ). length xs) no_rows) in
    let place : (s : ℕ) → s < n → is_known w s ≡ true → (j : ℕ) × (j < length w.columns) × (get_or w.columns j 0 ≡ s) × (place_in w s ≡ Column j) =
    λ s h known. at_column n s w.columns w.places.items w.known.items h gives known in
    let no_row : (s r : ℕ) → s < n → is_known w s ≡ true → place_in w s ≢ Row r =
    λ s r h known at. column_no_row (place s h known).0 r (sym (place s h known).3 ∙ at) in
    record {
      matrix = subst IsMatrix (sym zeros) (record {
        widths = All-replicate (λ row. length row ≡ cols) rows (replicate cols 0) (length-replicate cols 0);
        bytes = All-replicate AreBytes rows (replicate cols 0) (All-replicate (λ byte. byte < 256) cols 0 (omega arith));
      });
      rows = ap (λ (m : Grid). length m.rows) zeros ∙ length-replicate rows (replicate cols 0) ∙ count;
      limit = limit;
      cols = ap (λ (m : Grid). m.cols) zeros;
      fits = subst (All (FitsRows (row_count batches))) (sym no_plan) (All-nil (FitsRows (row_count batches)));
      places = gives.places_size ∙ length-replicate n (Row 0);
      known = gives.known_size ∙ length-replicate n false;
      taken = ap (λ (xs : List Bool). length xs) none_taken ∙ length-replicate (length batches) false;
      columns_below = below;
      at_columns = gives.here;
      each = λ s h known. subst (StandsIn (row_count batches) w.columns s) (sym (place s h known).3) ((place s h known).1, (place s h known).2);
      values = λ x bytes s h known.
          ap (place_value w.matrix w.plan (packet_column session batches x) (inactive_values w x)) (place s h known).3 ∙ ap x (place s h known).2;
      rows_once = λ s u r in_s in_u known_s known_u at_s at_u. absurd (no_row s r in_s known_s at_s);
      leftover_within = subst (All (λ r. r < row_count batches)) (sym no_rows) (All-nil (λ r. r < row_count batches));
      leftover_once = λ i j d before within. absurd (omega (arith, within, ap (λ (xs : List ℕ). length xs) no_rows));
      leftover_no_symbol = λ s r h known at. none_left r;
      leftover_zero = λ x bytes r has. absurd (none_left r has);
      untouched = λ b within untaken i h. record { not_left = none_left (first_row batches b + i); no_symbol = λ s low known at. no_row s (first_row batches b + i) low known at };
      packets = λ x bytes b within untaken i d h.
          let r : ℕ = first_row batches b + i in
          let column : List ℕ = packet_column session batches x in
          let in_rows : r < length (kept_packets batches) = omega (arith, row_count-room batches b within, h, length-kept_packets batches) in
          ap (λ (m : Grid). gf_add (get_or (plan_on_column w.plan column) r 0) (row_value m (inactive_values w x) r)) zeros
          ∙ ap (gf_add (get_or (plan_on_column w.plan column) r 0)) (zeros-row_value cols rows r (inactive_values w x))
          ∙ gf_add-zero (get_or (plan_on_column w.plan column) r 0)
          ∙ ap (λ (plan : List _). get_or (plan_on_column plan column) r 0) no_plan
          ∙ ap (λ (ys : List ℕ). get_or ys r 0) (plan_on_column-nil column)
          ∙ get_or-map (λ packet. packet_value session packet x) (kept_packets batches) r d 0 in_rows
          ∙ ap (λ (packet : Packet). packet_value session packet x) (kept_packets-at batches b i d within h);
      settled = λ b within taken i h.
          absurd (true≢false (sym taken ∙ ap (λ (xs : List Bool). get_or xs b false) none_taken ∙ get_or-replicate (length batches) b false false within));
      few = λ most are. omega (arith, ap (λ (xs : List _). length xs) no_plan);
    }

-- a list of distinct numbers below another has at most as many
pub few_below : (n : ℕ) (numbers : List ℕ) → All (λ s. s < n) numbers → AllPairs (λ a b. a ≢ b) numbers → length numbers ≤ n
few_below n numbers below once =
    omega (arith, count_true-others n (λ k. false) numbers below once (λ k d h. refl))

-- the marks of a list of numbers
pub set_of-given : (session : SessionData) (columns : List ℕ) (place : ℕ → Place) (places new_places : List Place) (known : List Bool)
    → GivesPlaces (length columns) (λ j. get_or columns j 0) place places (replicate (symbols_of session) false) new_places known
    → known ≡ set_of session columns
unfolding with_symbols
set_of-given session columns place places new_places known gives =
    let n : ℕ = symbols_of session in
    let member : ℕ → Bool = λ s. is_in [] s || list_any (λ u. u == s) columns in
    ext_get_or false known (map member (range_with_len 0 n))
    (gives.known_size ∙ length-replicate n false ∙ sym (length-map-range_with_len member 0 n))
    (λ s h.
    let low : s < n = omega (arith, h, gives.known_size, length-replicate n false) in
    value s low ∙ sym (get_or-map-range_with_len member 0 n s s false low (omega arith)))
  where
    value : (s : ℕ) → s < symbols_of session → get_or known s false ≡ (is_in [] s || list_any (λ u. u == s) columns)
    value s low =
        elim (find_symbol (length columns) (λ j. get_or columns j 0) s) [
          | inl found ↦
              ap (λ (u : ℕ). get_or known u false) (sym found.2) ∙ (gives.here found.0 found.1).0
              ∙ sym (any_at s columns found.0 found.1 found.2)
          | inr none ↦
              (gives.others s none).0 ∙ get_or-replicate (symbols_of session) s false false low
              ∙ sym (list_any_none (λ u. u == s) columns (λ k d h.
              false_from_ne_true (get_or columns k d == s) (λ e. none k h (sym (get_or_default_zero columns k d h) ∙ eqb-true (get_or columns k d) s e))))
        ]

-- what the begin writes to lists that were lent
pub begun_at : (session : SessionData) (columns slice : List ℕ) (n k first second : ℕ) (old_places places new_places : List Place) (old_known known new_known : List Bool)
    → slice ≡ columns → n ≡ length old_places → k ≡ length old_known → places ≡ old_places → known ≡ old_known
    → old_places ≡ replicate first (Row 0) → first ≡ symbols_of session → old_known ≡ replicate second false → second ≡ symbols_of session
    → GivesPlaces (length slice) (λ j. get_or slice j 0) (λ j. Column j) places known new_places new_known
    → GivesPlaces (length columns) (λ j. get_or columns j 0) (λ j. Column j) (replicate (symbols_of session) (Row 0)) (replicate (symbols_of session) false)
    (take n (new_places ++ drop (length new_places) old_places)) (take k (new_known ++ drop (length new_known) old_known))
begun_at session columns slice n k first second old_places places new_places old_known known new_known same np nk ps ks is_places count is_known_list more gives =
    let after_places : List Place = take n (new_places ++ drop (length new_places) old_places) in
    let after_known : List Bool = take k (new_known ++ drop (length new_known) old_known) in
    let at = names_at n k old_places places new_places old_known known new_known np nk ps ks gives in
    subst (λ (xs : List ℕ). GivesPlaces (length xs) (λ j. get_or xs j 0) (λ j. Column j) (replicate (symbols_of session) (Row 0)) (replicate (symbols_of session) false) after_places after_known) same
    (subst (λ (xs : List Place). GivesPlaces (length slice) (λ j. get_or slice j 0) (λ j. Column j) xs (replicate (symbols_of session) false) after_places after_known)
    (is_places ∙ ap (λ (m : ℕ). replicate m (Row 0)) count)
    (subst (λ (xs : List Bool). GivesPlaces (length slice) (λ j. get_or slice j 0) (λ j. Column j) old_places xs after_places after_known)
    (is_known_list ∙ ap (λ (m : ℕ). replicate m false) more) at))

-- ---- the columns

-- the first symbol at the end
pub below_columns : (session : SessionData) (inactive : List ℕ) → All (λ s. s < symbols_of session) inactive → All (λ s. s < symbols_of session) (columns_of session inactive)
below_columns session [] below = below
below_columns session (s ∷ list) below = choose (session.file_length % session.t == 0)
  where
    choose : (b : Bool) → All (λ s. s < symbols_of session) (if b then (s ∷ list) else (list ++ s ∷ []))
    choose true = below
    choose false =
        All-append (λ s. s < symbols_of session) list (s ∷ []) (All-tail (λ s. s < symbols_of session) s list below)
        (All-cons (λ s. s < symbols_of session) s [] (All-head (λ s. s < symbols_of session) s list below) (All-nil (λ s. s < symbols_of session)))

pub once_columns : (session : SessionData) (inactive : List ℕ) → AllPairs (λ a b. a ≢ b) inactive → AllPairs (λ a b. a ≢ b) (columns_of session inactive)
once_columns session [] once = once
once_columns session (s ∷ list) once = choose (session.file_length % session.t == 0)
  where
    choose : (b : Bool) → AllPairs (λ a b. a ≢ b) (if b then (s ∷ list) else (list ++ s ∷ []))
    choose true = once
    choose false =
        all_pairs_push (λ a b. a ≢ b) list s (λ i j d before within. once (suc i) (suc j) d (omega (arith, before)) (omega (arith, within)))
        (λ k d h e. once 0 (suc k) d (omega arith) (omega (arith, h)) (sym e))

or_swapped : (a b : Bool) → (a || b) ≡ (b || (a || false))
or_swapped true true = refl
or_swapped true false = refl
or_swapped false true = refl
or_swapped false false = refl

-- the set of the inactive symbols is that of the columns
pub set_of-columns : (session : SessionData) (inactive : List ℕ) → set_of session (columns_of session inactive) ≡ set_of session inactive
unfolding with_symbols
set_of-columns session [] = refl
set_of-columns session (s ∷ list) = choose (session.file_length % session.t == 0)
  where
    n : ℕ
    n = symbols_of session

    member : List ℕ → ℕ → Bool
    member xs u = is_in [] u || list_any (λ v. v == u) xs

    any_moved : (u : ℕ) → list_any (λ v. v == u) (list ++ s ∷ []) ≡ list_any (λ v. v == u) (s ∷ list)
    any_moved u =
        list_any-append (λ v. v == u) list (s ∷ []) ∙ sym (or_swapped (s == u) (list_any (λ v. v == u) list))

    choose : (b : Bool) → set_of session (if b then (s ∷ list) else (list ++ s ∷ [])) ≡ set_of session (s ∷ list)
    choose true = refl
    choose false =
        ext_get_or false (set_of session (list ++ s ∷ [])) (set_of session (s ∷ list))
        (length-map-range_with_len (member (list ++ s ∷ [])) 0 n ∙ sym (length-map-range_with_len (member (s ∷ list)) 0 n))
        (λ u h.
        let low : u < n = omega (arith, h, length-map-range_with_len (member (list ++ s ∷ [])) 0 n) in
        get_or-map-range_with_len (member (list ++ s ∷ [])) 0 n u u false low (omega arith)
        ∙ ap (λ (b : Bool). is_in [] u || b) (any_moved u)
        ∙ sym (get_or-map-range_with_len (member (s ∷ list)) 0 n u u false low (omega arith)))

-- ---- the end

packet_value-lt : (session : SessionData) (packet : Packet) (x : ℕ → ℕ) → AreByteValues session x → packet_value session packet x < 256
unfolding combined_value coded_value
packet_value-lt session packet x bytes =
    gf_sum-lt session.m (λ j. gf_mul (get_or packet.coefs j 0) (coded_value (batch_of session packet.batch) j x))
    (λ j h.
    gf_mul-lt (get_or packet.coefs j 0) (coded_value (batch_of session packet.batch) j x)
    (gf_sum-lt (degree_of (batch_of session packet.batch))
    (λ k. gf_mul (entry_of (batch_of session packet.batch) k j) (x (contributor_of (batch_of session packet.batch) k)))
    (λ k l.
    gf_mul-lt (entry_of (batch_of session packet.batch) k j) (x (contributor_of (batch_of session packet.batch) k))
    (bytes (contributor_of (batch_of session packet.batch) k) (contributor_of-lt session packet.batch k l)))))

-- all batches were taken, and all symbols are known
pub record IsDone (session : SessionData) (batches : List HeldBatch) (w : Work) : Type 0 where
  pub work : IsWork session batches w
  pub known : HasAllSymbols session w.known.items
  pub taken : (b : ℕ) → b < length batches → is_taken w b ≡ true
  pub plan : IsPlan w.plan

-- a row is left over, or some symbol's
row_settled : (session : SessionData) (batches : List HeldBatch) (w : Work) (r : ℕ) → IsDone session batches w → r < row_count batches
    → Contains w.leftover r ⊎ ((s : ℕ) × (s < symbols_of session) × (place_in w s ≡ Row r))
row_settled session batches w r done within =
    let at = row_of_batch batches r within in
    elim (done.work.settled at.0 at.1 (done.taken at.0 at.1) at.2 at.3) [
      | inl left ↦ inl (subst (Contains w.leftover) at.4 left)
      | inr symbol ↦ inr (symbol.0, symbol.1, symbol.3 ∙ ap (λ (k : ℕ). Row k) at.4)
    ]

stands_at : (rows : ℕ) (w : Work) (peeled : Peeled) (s : ℕ) (place : Place) → rows ≡ length peeled.rows.rows → peeled.columns ≡ w.columns
    → StandsIn rows w.columns s place → StandsAt peeled s place
stands_at rows w peeled s (Row r) size same stands = omega (arith, stands, size)
stands_at rows w peeled s (Column j) size same stands = (
  omega (arith, stands.0, ap (λ (xs : List ℕ). length xs) same),
  ap (λ (xs : List ℕ). get_or xs j 0) same ∙ stands.1,
)

column_number : Place → ℕ
column_number (Row r) = 0
column_number (Column j) = j

column_is : (i j : ℕ) → Column i ≡ Column j → i ≡ j
unfolding column_number
column_is i j e = ap column_number e

-- what is made of the work's parts
abbrev pub peeled_of : List ℕ → Work → Peeled
peeled_of inactive w = record {
  inactive = inactive;
  columns = w.columns;
  plan = w.plan;
  places = w.places.items;
  rows = w.matrix;
  leftover = w.leftover;
}

IsPlaced-done : (session : SessionData) (batches : List HeldBatch) (inactive : List ℕ) (w : Work) → IsDone session batches w → w.columns ≡ columns_of session inactive
    → IsPlaced session (length (kept_packets batches)) (peeled_of inactive w)
IsPlaced-done session batches inactive w done columns =
    let is = done.work in
    let size : row_count batches ≡ length (kept_packets batches) = sym (length-kept_packets batches) in
    record {
      matrix = is.matrix;
      row_count = is.rows ∙ size;
      cols = is.cols;
      columns = columns;
      columns_below = is.columns_below;
      columns_once = λ i j d before within e.
          let in_i : i < length w.columns = omega (arith, before, within) in
          let same : get_or w.columns i 0 ≡ get_or w.columns j 0 =
          sym (get_or_default_zero w.columns i d in_i) ∙ e ∙ get_or_default_zero w.columns j d within in
          let one : i ≡ j = column_is i j (sym (is.at_columns i in_i).1 ∙ ap (place_in w) same ∙ (is.at_columns j within).1) in
          omega (arith, one, before);
      places = is.places;
      each = λ s h. stands_at (row_count batches) w (peeled_of inactive w) s (place_in w s) (sym is.rows) refl (is.each s h (done.known s h));
      at_columns = λ j h. (is.at_columns j h).1;
      rows_once = λ s u r in_s in_u. is.rows_once s u r in_s in_u (done.known s in_s) (done.known u in_u);
      leftover_within = subst (λ (n : ℕ). All (λ r. r < n) w.leftover) size is.leftover_within;
      leftover_once = is.leftover_once;
      leftover_no_symbol = λ s r h. is.leftover_no_symbol s r h (done.known s h);
      every_row = λ r h. row_settled session batches w r done (omega (arith, h, size));
      fits = subst (λ (n : ℕ). All (FitsRows n) w.plan) size is.fits;
      plan = done.plan;
    }

-- what a symbol's row gives, of the column that the values make
symbol_row : (session : SessionData) (batches : List HeldBatch) (w : Work) (x : ℕ → ℕ) (s r : ℕ) → IsDone session batches w → AreByteValues session x
    → s < symbols_of session → place_in w s ≡ Row r → x s ≡ given_by session batches w x r
symbol_row session batches w x s r done bytes h at =
    sym (done.work.values x bytes s h (done.known s h))
    ∙ ap (place_value w.matrix w.plan (packet_column session batches x) (inactive_values w x)) at

sides : (session : SessionData) (batches : List HeldBatch) (inactive : List ℕ) (w : Work) (column : List ℕ) (x : ℕ → ℕ) → IsDone session batches w
    → length column ≡ length (kept_packets batches) → AreBytes column → AreByteValues session x
    → Satisfies session (kept_packets batches) column x
    ↔ (GiveSymbols session (peeled_of inactive w) (plan_on_column w.plan column) x
    × Solves w.matrix (plan_on_column w.plan column) w.leftover (inactive_values w x))
sides session batches inactive w column x done size bytes values =
    let is = done.work in
    let own : List ℕ = packet_column session batches x in
    let own_size : length own ≡ length (kept_packets batches) = length-map (kept_packets batches) (λ packet. packet_value session packet x) in
    let value : ℕ → ℕ = row_value w.matrix (inactive_values w x) in
    let forth : own ≡ column → (GiveSymbols session (peeled_of inactive w) (plan_on_column w.plan column) x
    × Solves w.matrix (plan_on_column w.plan column) w.leftover (inactive_values w x)) =
    λ same. (
      λ s r h at.
          symbol_row session batches w x s r done values h at
          ∙ ap (λ (ys : List ℕ). gf_add (get_or (plan_on_column w.plan ys) r 0) (value r)) same,
      record {
        each = λ k d h.
            let r : ℕ = get_or w.leftover k d in
            ap (λ (ys : List ℕ). get_or (plan_on_column w.plan ys) r 0) (sym same)
            ∙ gf_add-eq-zero (get_or (plan_on_column w.plan own) r 0) (value r) (is.leftover_zero x values r (Contains-get_or w.leftover k d h));
      },
    ) in
    let back : (GiveSymbols session (peeled_of inactive w) (plan_on_column w.plan column) x
    × Solves w.matrix (plan_on_column w.plan column) w.leftover (inactive_values w x)) → own ≡ column =
    λ both.
    plan_on_column-injective w.plan own column done.plan
    (All-map (λ byte. byte < 256) (λ packet. packet_value session packet x) (kept_packets batches) (λ k d h. packet_value-lt session (get_or (kept_packets batches) k d) x values))
    bytes (own_size ∙ sym size)
    (ext_get_or 0 (plan_on_column w.plan own) (plan_on_column w.plan column)
    (length-plan_on_column w.plan own ∙ own_size ∙ sym size ∙ sym (length-plan_on_column w.plan column))
    (λ r h.
    let low : r < row_count batches = omega (arith, h, length-plan_on_column w.plan own, own_size, length-kept_packets batches) in
    elim (row_settled session batches w r done low) [
      | inl left ↦
          gf_add-eq-zero (get_or (plan_on_column w.plan own) r 0) (value r) (is.leftover_zero x values r left)
          ∙ sym (All-contains (λ r. get_or (plan_on_column w.plan column) r 0 ≡ value r) w.leftover r both.1.each left)
      | inr symbol ↦
          sym (gf_add_cancel_right (get_or (plan_on_column w.plan own) r 0) (value r))
          ∙ ap (λ (y : ℕ). gf_add y (value r))
          (sym (symbol_row session batches w x symbol.0 r done values symbol.1 symbol.2) ∙ both.0 symbol.0 r symbol.1 symbol.2)
          ∙ gf_add_cancel_right (get_or (plan_on_column w.plan column) r 0) (value r)
    ])) in
    (λ satisfies. forth satisfies.values, λ both. record { bytes = values; values = back both })

pub IsPeeled-done : (session : SessionData) (batches : List HeldBatch) (inactive : List ℕ) (w : Work) (peeled : Peeled) → IsDone session batches w
    → w.columns ≡ columns_of session inactive → peeled ≡ peeled_of inactive w → IsPeeled session (kept_packets batches) peeled
IsPeeled-done session batches inactive w peeled done columns same =
    subst (IsPeeled session (kept_packets batches)) (sym same) (record {
      placed = IsPlaced-done session batches inactive w done columns;
      solutions = λ column x size bytes values. sides session batches inactive w column x done size bytes values;
    })

taken_rows-all : (batches : List HeldBatch) (taken : List Bool) → taken_rows batches taken ≤ row_count batches
unfolding taken_rows
taken_rows-all [] taken = omega arith
taken_rows-all (batch ∷ batches) [] = omega arith
taken_rows-all (batch ∷ batches) (true ∷ taken) =
    omega (arith, taken_rows-all batches taken, sum_by-cons (λ (h : HeldBatch). length h.kept) batch batches)
taken_rows-all (batch ∷ batches) (false ∷ taken) =
    omega (arith, taken_rows-all batches taken, sum_by-cons (λ (h : HeldBatch). length h.kept) batch batches)

pub few-done : (session : SessionData) (batches : List HeldBatch) (w : Work) (most : ℕ) → IsWork session batches w → AreDegreesWithin session batches most
    → length w.plan ≤ row_count batches * most
few-done session batches w most is are =
    omega (arith, is.few most are, mul-le-mul_right most (taken_rows-all batches w.taken.items))

-- ---- one more step

pub next_place : (session : SessionData) (locals : List Local) (known : List Bool) (steps : List Step) (i : ℕ) (step : Step) → i < length steps
    → step ≡ get_or steps i step → AreSteps session locals known (drop i steps) → step.place < length locals
next_place session locals known steps i step within is are =
    let from = steps_from session locals known steps i step within are in
    subst (λ (st : Step). st.place < length locals) (sym is) (slice_get_within locals (get_or steps i step).place from.0 from.1.0)

pub next_fixing : (session : SessionData) (locals : List Local) (known : List Bool) (steps : List Step) (i : ℕ) (step : Step) (d : Local) → i < length steps
    → step ≡ get_or steps i step → AreSteps session locals known (drop i steps) → IsFixing (get_or locals step.place d) known step.fixing
next_fixing session locals known steps i step d within is are =
    let from = steps_from session locals known steps i step within are in
    subst (λ (st : Step). IsFixing (get_or locals st.place d) known st.fixing) (sym is)
    (subst (λ (l : Local). IsFixing l known (get_or steps i step).fixing) (sym (get_or_from_slice_get locals (get_or steps i step).place from.0 d from.1.0)) from.1.1.0)

pub next_steps : (session : SessionData) (locals : List Local) (known new_known : List Bool) (steps : List Step) (i : ℕ) (step : Step) → i < length steps
    → step ≡ get_or steps i step → AreSteps session locals known (drop i steps)
    → ((d : Local) → new_known ≡ with_symbols session known (get_or locals step.place d).batch.contributors)
    → AreSteps session locals new_known (drop (i + 1) steps)
next_steps session locals known new_known steps i step within is are after =
    let from = steps_from session locals known steps i step within are in
    let local : get_or locals step.place from.0 ≡ from.0 =
    ap (λ (st : Step). get_or locals st.place from.0) is ∙ get_or_from_slice_get locals (get_or steps i step).place from.0 from.0 from.1.0 in
    let next : suc i ≡ i + 1 = omega arith in
    subst (λ (n : ℕ). AreSteps session locals new_known (drop n steps)) next
    (subst (λ (ks : List Bool). AreSteps session locals ks (drop (suc i) steps))
    (sym (after from.0 ∙ ap (λ (l : Local). with_symbols session known l.batch.contributors) local)) from.1.1.1)

pub still_left : (w v : Work) (steps : List Step) (i k : ℕ) (step d : Step) → AllPairs (λ a b. a.place ≢ b.place) steps → step ≡ get_or steps i step
    → i < k → k < length steps → v.taken.items ≡ set w.taken.items step.place true → is_taken w (get_or steps k d).place ≡ false
    → is_taken v (get_or steps k d).place ≡ false
still_left w v steps i k step d once is before within taken was =
    let other : (get_or steps k d).place ≢ step.place =
    λ e. once i k d before within
    (ap (λ (st : Step). st.place) (get_or_default steps i d step (omega (arith, before, within)) ∙ sym is) ∙ sym e) in
    ap (λ (xs : List Bool). get_or xs (get_or steps k d).place false) taken
    ∙ get_or-set_other w.taken.items step.place (get_or steps k d).place true false other ∙ was
