-- What stays and what changes while a batch is taken: the rows of different batches are apart, and the batch's own rows become
-- symbols' rows or are left over.
use Rattle.std.proofs.Common.{ℕ, zero, suc, ◌≡◌, ◌≢◌, ◌<◌, ◌≤◌, ◌+◌, ◌-◌, ◌*◌, ◌∙◌, ◌⊎◌, inl, inr, Bool, true, false, List, [], ◌∷◌, ◌++◌, length, get_or, set, take, sym, ap, refl, subst, arith, length-set}
use Rattle.std.specs.Prelude.{All, AllPairs, Contains, map}
use Rattle.std.proofs.lemmas.Bool.{cases_eq, cases_lt, true≢false}
use Rattle.std.proofs.Math.Nat.{mul-le-mul_left, add-mul}
use Rattle.gf_rows.specs.Operation.{FitsRows}
use Rattle.std.specs.Prelude.{if◌then◌else◌}
use Rattle.std.proofs.lemmas.List.{length-map, length-append, get_or-map, get_or-set_same, get_or-set_other, get_or-take, take-take, get_or_append_left, length-take-le}
use Rattle.std.proofs.lemmas.List.{get_or-append-add}
use Rattle.std.proofs.lemmas.List.Elements.{Contains-append_left, Contains-append_right, Contains-append_cases, Contains-get_or, All-append, All-contains, All-map}
use Rattle.bats_model.specs.Session.{SessionData, symbols_of}
use Rattle.bats_model.specs.Batch.{batch_of, degree_of}
use Rattle.bats_model.specs.Values.{packet_value, AreByteValues}
use Rattle.bats_batch.specs.Held.{HeldBatch, no_batch, batch_at, kept_packets, row_count}
use Rattle.bats_peel.specs.declared.peeled.Place.{Place}
use Rattle.bats_peel.specs.declared.peeled.Place.TheVariants.{Row, Column}
use Rattle.bats_peel.specs.declared.work.Work.{Work}
use Rattle.bats_peel.specs.steps.Parts.{part, place_value, AreValuesOf, Changes, IsBeyond}
use Rattle.bats_peel.specs.steps.Work.{first_row, rank_of, place_in, is_known, is_taken, packet_column, inactive_values, given_by, StandsIn, IsFree, taken_rows, IsWork, GivesPlaces}
use Rattle.bats_batch.proofs.HeldNumbers.{length-kept_packets}
use Rattle.bats_peel.proofs.LocalLemmas.{row_count-room}

-- ---- rows of batches

-- the rows of a batch come before those of a later one
rows_before : (batches : List HeldBatch) (b c : ℕ) → b < c → c < length batches → first_row batches b + rank_of batches b ≤ first_row batches c
rows_before batches b c before within =
    let some : List HeldBatch = take c batches in
    let room : first_row some b + rank_of some b ≤ row_count some = row_count-room some b (omega (arith, length-take-here)) in
    let first : first_row some b ≡ first_row batches b = ap row_count (take-take b c batches (omega (arith, before))) in
    let own : rank_of some b ≡ rank_of batches b = ap (λ (h : HeldBatch). length h.kept) (get_or-take c batches b no_batch before) in
    omega (arith, room, first, own)
  where
    length-take-here : length (take c batches) ≡ c
    length-take-here = length-take-le c batches (omega (arith, within))

pub rows_apart : (batches : List HeldBatch) (b c i k : ℕ) → b ≢ c → b < length batches → c < length batches → i < rank_of batches b → k < rank_of batches c
    → first_row batches b + i ≢ first_row batches c + k
rows_apart batches b c i k other in_b in_c in_i in_k e =
    elim (cases_lt b c) [
      | inl before ↦ omega (arith, rows_before batches b c before in_c, in_i, e)
      | inr after ↦ omega (arith, rows_before batches c b (omega (arith, after, other)) in_b, in_k, e)
    ]

-- ---- lists

pub find_symbol : (count : ℕ) (symbol : ℕ → ℕ) (s : ℕ) → ((i : ℕ) × (i < count) × (symbol i ≡ s)) ⊎ ((i : ℕ) → i < count → symbol i ≢ s)
find_symbol zero symbol s = inr (λ i h. absurd (omega (arith, h)))
find_symbol (suc n) symbol s =
    elim (cases_eq (symbol n) s) [
      | inl e ↦ inl (n, omega arith, e)
      | inr other ↦
          elim (find_symbol n symbol s) [
            | inl found ↦ inl (found.0, omega (arith, found.1), found.2)
            | inr none ↦
                inr (λ i h. elim (cases_eq i n) [
                  | inl e ↦ λ is. other (ap symbol (sym e) ∙ is)
                  | inr less ↦ none i (omega (arith, h, less))
                ])
          ]
    ]

Contains-map : (f : ℕ → ℕ) (xs : List ℕ) (x : ℕ) → Contains xs x → Contains (map f xs) (f x)
Contains-map f xs x has =
    (has.0, omega (arith, has.1, length-map xs f), get_or-map f xs has.0 x (f x) has.1 ∙ ap f has.2)

Contains-of_map : (f : ℕ → ℕ) (xs : List ℕ) (y : ℕ) → Contains (map f xs) y → (x : ℕ) × Contains xs x × (f x ≡ y)
Contains-of_map f xs y has =
    let within : has.0 < length xs = omega (arith, has.1, length-map xs f) in
    (get_or xs has.0 0, Contains-get_or xs has.0 0 within, sym (get_or-map f xs has.0 0 y within) ∙ has.2)

apart_append : (xs ys : List ℕ) → AllPairs (λ a b. a ≢ b) xs → AllPairs (λ a b. a ≢ b) ys → ((x : ℕ) → Contains xs x → ¬ Contains ys x)
    → AllPairs (λ a b. a ≢ b) (xs ++ ys)
apart_append xs ys first second none i j d before within =
    let long : length (xs ++ ys) ≡ length xs + length ys = length-append xs ys in
    elim (cases_lt j (length xs)) [
      | inl low ↦
          λ e. first i j d before low
          (sym (get_or_append_left xs ys d i (omega (arith, before, low))) ∙ e ∙ get_or_append_left xs ys d j low)
      | inr high ↦
          let at_j : get_or (xs ++ ys) j d ≡ get_or ys (j - length xs) d =
          ap (λ (k : ℕ). get_or (xs ++ ys) k d) (omega (arith, high)) ∙ get_or-append-add xs ys (j - length xs) d in
          let in_j : j - length xs < length ys = omega (arith, high, within, long) in
          elim (cases_lt i (length xs)) [
            | inl low ↦
                λ e. none (get_or xs i d) (Contains-get_or xs i d low)
                (subst (Contains ys) (sym (sym (get_or_append_left xs ys d i low) ∙ e ∙ at_j)) (Contains-get_or ys (j - length xs) d in_j))
            | inr up ↦
                λ e. second (i - length xs) (j - length xs) d (omega (arith, before, up)) in_j
                (sym (ap (λ (k : ℕ). get_or (xs ++ ys) k d) (omega (arith, up)) ∙ get_or-append-add xs ys (i - length xs) d) ∙ e ∙ at_j)
          ]
    ]

-- ---- one batch is taken

-- row numbers of places
row_number : Place → ℕ
row_number (Row r) = r
row_number (Column j) = 0

-- a batch was taken: some symbols got its rows, and its other rows are left over
pub record Takes (session : SessionData) (batches : List HeldBatch) (b : ℕ) (w v : Work) (gives : List ℕ → (ℕ → ℕ) → ℕ → ℕ)
    (count : ℕ) (symbol row : ℕ → ℕ) (zeros : List ℕ) : Type 0 where
  pub within : b < length batches
  pub untaken : is_taken w b ≡ false
  pub changes : Changes (first_row batches b) (rank_of batches b) w.matrix v.matrix w.plan v.plan gives
  pub names : GivesPlaces count symbol (λ i. Row (first_row batches b + row i)) w.places.items w.known.items v.places.items v.known.items
  pub below : (i : ℕ) → i < count → symbol i < symbols_of session
  pub new : (i : ℕ) → i < count → is_known w (symbol i) ≡ false
  pub row_below : (i : ℕ) → i < count → row i < rank_of batches b
  pub row_once : (i k : ℕ) → i < count → k < count → row i ≡ row k → i ≡ k
  pub leftover : v.leftover ≡ w.leftover ++ map (λ r. first_row batches b + r) zeros
  pub zeros_below : All (λ r. r < rank_of batches b) zeros
  pub zeros_once : AllPairs (λ a b. a ≢ b) zeros
  pub apart : (i : ℕ) → i < count → ¬ Contains zeros (row i)
  pub covered : (r : ℕ) → r < rank_of batches b → Contains zeros r ⊎ ((i : ℕ) × (i < count) × (row i ≡ r))
  pub columns : v.columns ≡ w.columns
  pub taken : v.taken.items ≡ set w.taken.items b true
  pub values : (x : ℕ → ℕ) → AreByteValues session x → (i : ℕ) → i < count
      → gives (packet_column session batches x) (inactive_values w x) (row i) ≡ x (symbol i)
  pub zero : (x : ℕ → ℕ) → AreByteValues session x → (r : ℕ) → Contains zeros r
      → gives (packet_column session batches x) (inactive_values w x) r ≡ 0
  pub few : length v.plan ≤ length w.plan + rank_of batches b * degree_of (batch_of session (batch_at batches b).number)

pub AreValuesOf-work : (session : SessionData) (batches : List HeldBatch) (w : Work) (x : ℕ → ℕ) → IsWork session batches w → AreByteValues session x
    → AreValuesOf w.matrix (packet_column session batches x) (inactive_values w x)
AreValuesOf-work session batches w x is bytes = record {
  size = length-map (kept_packets batches) (λ packet. packet_value session packet x) ∙ length-kept_packets batches ∙ sym is.rows;
  bytes = λ j h. bytes (get_or w.columns j 0) (is.columns_below j 0 (omega (arith, h, is.cols)));
}

-- a known symbol's place is none of the rows of a batch that wasn't taken
pub beyond_untaken : (session : SessionData) (batches : List HeldBatch) (b : ℕ) (w : Work) (s : ℕ) (place : Place) → IsWork session batches w
    → b < length batches → is_taken w b ≡ false → s < symbols_of session → is_known w s ≡ true → place_in w s ≡ place
    → StandsIn (row_count batches) w.columns s place → IsBeyond w.matrix (first_row batches b) (rank_of batches b) place
beyond_untaken session batches b w s (Row r) is within untaken below known at stands = (
  omega (arith, stands, is.rows),
  elim (cases_lt r (first_row batches b)) [
    | inl before ↦ inl before
    | inr from ↦
        elim (cases_lt r (first_row batches b + rank_of batches b)) [
          | inl inside ↦
              let i : ℕ = r - first_row batches b in
              let here : first_row batches b + i ≡ r = omega (arith, from) in
              absurd ((is.untouched b within untaken i (omega (arith, from, inside))).no_symbol s below known (at ∙ ap (λ (t : ℕ). Row t) (sym here)))
          | inr after ↦ inr after
        ]
  ],
)
beyond_untaken session batches b w s (Column j) is within untaken below known at stands = omega (arith, stands.0, is.cols)

-- ---- what the rows and places are after a batch was taken

-- the values of the columns stay
values_same : {session : SessionData} {batches : List HeldBatch} {b : ℕ} {w v : Work} {gives : List ℕ → (ℕ → ℕ) → ℕ → ℕ} {count : ℕ} {symbol row : ℕ → ℕ} {zeros : List ℕ}
    (x : ℕ → ℕ) → Takes session batches b w v gives count symbol row zeros → inactive_values v x ≡ inactive_values w x
values_same x t = ap (λ (columns : List ℕ). (λ (j : ℕ). x (get_or columns j 0))) t.columns

given_here : {session : SessionData} {batches : List HeldBatch} {b : ℕ} {w v : Work} {gives : List ℕ → (ℕ → ℕ) → ℕ → ℕ} {count : ℕ} {symbol row : ℕ → ℕ} {zeros : List ℕ}
    (x : ℕ → ℕ) (i : ℕ) → IsWork session batches w → Takes session batches b w v gives count symbol row zeros → AreByteValues session x → i < rank_of batches b
    → given_by session batches v x (first_row batches b + i) ≡ gives (packet_column session batches x) (inactive_values w x) i
given_here {session} {batches} {b} {w} {v} x i is t bytes within =
    ap (λ (values : ℕ → ℕ). part v.matrix v.plan (packet_column session batches x) values (first_row batches b + i)) (values_same x t)
    ∙ t.changes.here (packet_column session batches x) (inactive_values w x) (AreValuesOf-work session batches w x is bytes) i within

given_elsewhere : {session : SessionData} {batches : List HeldBatch} {b : ℕ} {w v : Work} {gives : List ℕ → (ℕ → ℕ) → ℕ → ℕ} {count : ℕ} {symbol row : ℕ → ℕ} {zeros : List ℕ}
    (x : ℕ → ℕ) (r : ℕ) → IsWork session batches w → Takes session batches b w v gives count symbol row zeros → AreByteValues session x
    → r < first_row batches b ⊎ first_row batches b + rank_of batches b ≤ r → given_by session batches v x r ≡ given_by session batches w x r
given_elsewhere {session} {batches} {b} {w} {v} x r is t bytes beyond =
    ap (λ (values : ℕ → ℕ). part v.matrix v.plan (packet_column session batches x) values r) (values_same x t)
    ∙ t.changes.others (packet_column session batches x) (inactive_values w x) (AreValuesOf-work session batches w x is bytes) r beyond

place_elsewhere : {session : SessionData} {batches : List HeldBatch} {b : ℕ} {w v : Work} {gives : List ℕ → (ℕ → ℕ) → ℕ → ℕ} {count : ℕ} {symbol row : ℕ → ℕ} {zeros : List ℕ}
    (x : ℕ → ℕ) (place : Place) → IsWork session batches w → Takes session batches b w v gives count symbol row zeros → AreByteValues session x
    → IsBeyond w.matrix (first_row batches b) (rank_of batches b) place
    → place_value v.matrix v.plan (packet_column session batches x) (inactive_values v x) place
    ≡ place_value w.matrix w.plan (packet_column session batches x) (inactive_values w x) place
place_elsewhere x (Row r) is t bytes beyond = given_elsewhere x r is t bytes beyond.1
place_elsewhere x (Column j) is t bytes beyond = ap (λ (columns : List ℕ). x (get_or columns j 0)) t.columns

old_symbol : {session : SessionData} {batches : List HeldBatch} {b : ℕ} {w v : Work} {gives : List ℕ → (ℕ → ℕ) → ℕ → ℕ} {count : ℕ} {symbol row : ℕ → ℕ} {zeros : List ℕ}
    (s : ℕ) → Takes session batches b w v gives count symbol row zeros → is_known w s ≡ true → (is_known v s ≡ true) × (place_in v s ≡ place_in w s)
old_symbol {w = w} s t known =
    let other = t.names.others s (λ i h e. true≢false (sym known ∙ ap (is_known w) (sym e) ∙ t.new i h)) in
    (other.0 ∙ known, other.1)

new_symbol : {session : SessionData} {batches : List HeldBatch} {b : ℕ} {w v : Work} {gives : List ℕ → (ℕ → ℕ) → ℕ → ℕ} {count : ℕ} {symbol row : ℕ → ℕ} {zeros : List ℕ}
    (s : ℕ) → Takes session batches b w v gives count symbol row zeros → is_known v s ≡ true
    → ((i : ℕ) × (i < count) × (symbol i ≡ s) × (place_in v s ≡ Row (first_row batches b + row i))) ⊎ ((is_known w s ≡ true) × (place_in v s ≡ place_in w s))
new_symbol {v = v} {count = count} {symbol = symbol} s t known =
    elim (find_symbol count symbol s) [
      | inl found ↦ inl (found.0, found.1, found.2, ap (place_in v) (sym found.2) ∙ (t.names.here found.0 found.1).1)
      | inr none ↦ let other = t.names.others s none in inr (sym other.0 ∙ known, other.1)
    ]

-- the batch's rows were free
own_free : {session : SessionData} {batches : List HeldBatch} {b : ℕ} {w v : Work} {gives : List ℕ → (ℕ → ℕ) → ℕ → ℕ} {count : ℕ} {symbol row : ℕ → ℕ} {zeros : List ℕ}
    (i : ℕ) → IsWork session batches w → Takes session batches b w v gives count symbol row zeros → i < rank_of batches b
    → IsFree (symbols_of session) w (first_row batches b + i)
own_free {b = b} i is t within = is.untouched b t.within t.untaken i within

-- a new row left over is one of the batch's
new_leftover : {session : SessionData} {batches : List HeldBatch} {b : ℕ} {w v : Work} {gives : List ℕ → (ℕ → ℕ) → ℕ → ℕ} {count : ℕ} {symbol row : ℕ → ℕ} {zeros : List ℕ}
    (r : ℕ) → Takes session batches b w v gives count symbol row zeros → Contains v.leftover r
    → Contains w.leftover r ⊎ ((i : ℕ) × (i < rank_of batches b) × Contains zeros i × (first_row batches b + i ≡ r))
new_leftover {batches = batches} {b = b} {w = w} {zeros = zeros} r t has =
    elim (Contains-append_cases w.leftover (map (λ i. first_row batches b + i) zeros) r (subst (λ (xs : List ℕ). Contains xs r) t.leftover has)) [
      | inl old ↦ inl old
      | inr new ↦
          let from = Contains-of_map (λ i. first_row batches b + i) zeros r new in
          inr (from.0, All-contains (λ i. i < rank_of batches b) zeros from.0 t.zeros_below from.1, from.1, from.2)
    ]

pub row_is : (a r : ℕ) → Row a ≡ Row r → a ≡ r
unfolding row_number
row_is a r e = ap row_number e

-- rows of a batch are not among those of another
elsewhere : (batches : List HeldBatch) (b c i : ℕ) → c ≢ b → b < length batches → c < length batches → i < rank_of batches c
    → first_row batches c + i < first_row batches b ⊎ first_row batches b + rank_of batches b ≤ first_row batches c + i
elsewhere batches b c i other in_b in_c within =
    elim (cases_lt c b) [
      | inl before ↦ inl (omega (arith, rows_before batches c b before in_b, within))
      | inr after ↦ inr (omega (arith, rows_before batches b c (omega (arith, after, other)) in_c))
    ]

-- a batch that isn't taken now wasn't taken, and is another one
still_untaken : {session : SessionData} {batches : List HeldBatch} {b : ℕ} {w v : Work} {gives : List ℕ → (ℕ → ℕ) → ℕ → ℕ} {count : ℕ} {symbol row : ℕ → ℕ} {zeros : List ℕ}
    (c : ℕ) → IsWork session batches w → Takes session batches b w v gives count symbol row zeros → is_taken v c ≡ false → (c ≢ b) × (is_taken w c ≡ false)
still_untaken {b = b} {w = w} c is t untaken =
    let now : get_or (set w.taken.items b true) c false ≡ false = ap (λ (taken : List Bool). get_or taken c false) (sym t.taken) ∙ untaken in
    let other : c ≢ b = λ e. true≢false (sym (get_or-set_same w.taken.items b true false (omega (arith, t.within, is.taken)))
    ∙ ap (λ (k : ℕ). get_or (set w.taken.items b true) k false) (sym e) ∙ now) in
    (other, sym (get_or-set_other w.taken.items b c true false other) ∙ now)

taken_rows-set : (batches : List HeldBatch) (taken : List Bool) (b : ℕ) → b < length batches → length taken ≡ length batches → get_or taken b false ≡ false
    → taken_rows batches (set taken b true) ≡ taken_rows batches taken + rank_of batches b
unfolding taken_rows
taken_rows-set [] taken b within size is = absurd (omega (arith, within))
taken_rows-set (batch ∷ batches) [] b within size is = absurd (omega (arith, size))
taken_rows-set (batch ∷ batches) (true ∷ taken) zero within size is = absurd (true≢false is)
taken_rows-set (batch ∷ batches) (false ∷ taken) zero within size is = omega arith
taken_rows-set (batch ∷ batches) (first ∷ taken) (suc b) within size is =
    let rest : taken_rows batches (set taken b true) ≡ taken_rows batches taken + rank_of batches b =
    taken_rows-set batches taken b (omega (arith, within)) (omega (arith, size)) is in
    ap (λ (n : ℕ). (if first then length batch.kept else 0) + n) rest ∙ omega arith

few_more : (plan old rank degree taken most : ℕ) → plan ≤ old + rank * degree → old ≤ taken * most → degree ≤ most → plan ≤ (taken + rank) * most
few_more plan old rank degree taken most more few within =
    omega (arith, more, few, mul-le-mul_left rank within, add-mul taken rank most)

pub IsWork-taken : (session : SessionData) (batches : List HeldBatch) (b : ℕ) (w v : Work) (gives : List ℕ → (ℕ → ℕ) → ℕ → ℕ) (count : ℕ) (symbol row : ℕ → ℕ) (zeros : List ℕ)
    → IsWork session batches w → Takes session batches b w v gives count symbol row zeros → IsWork session batches v
IsWork-taken session batches b w v gives count symbol row zeros is t =
    let first : ℕ = first_row batches b in
    let rank : ℕ = rank_of batches b in
    let new : List ℕ = map (λ (i : ℕ). first + i) zeros in
    let room : first + rank ≤ row_count batches = row_count-room batches b t.within in
    record {
      matrix = t.changes.keeps.matrix;
      rows = t.changes.keeps.rows ∙ is.rows;
      limit = is.limit;
      cols = t.changes.keeps.cols ∙ is.cols ∙ sym (ap (λ (columns : List ℕ). length columns) t.columns);
      fits = subst (λ n. All (FitsRows n) v.plan) is.rows (t.changes.keeps.fits (subst (λ n. All (FitsRows n) w.plan) (sym is.rows) is.fits));
      places = t.names.places_size ∙ is.places;
      known = t.names.known_size ∙ is.known;
      taken = ap (λ (taken : List Bool). length taken) t.taken ∙ length-set w.taken.items b true ∙ is.taken;
      columns_below = subst (All (λ s. s < symbols_of session)) (sym t.columns) is.columns_below;
      at_columns = λ j h.
          let within : j < length w.columns = omega (arith, h, ap (λ (columns : List ℕ). length columns) t.columns) in
          let e : get_or v.columns j 0 ≡ get_or w.columns j 0 = ap (λ (columns : List ℕ). get_or columns j 0) t.columns in
          let old = is.at_columns j within in
          let now = old_symbol (get_or w.columns j 0) t old.0 in
          (ap (is_known v) e ∙ now.0, ap (place_in v) e ∙ now.1 ∙ old.1);
      each = λ s below known.
          elim (new_symbol s t known) [
            | inl named ↦
                subst (StandsIn (row_count batches) v.columns s) (sym named.3) (omega (arith, room, t.row_below named.0 named.1))
            | inr old ↦
                subst (λ (columns : List ℕ). StandsIn (row_count batches) columns s (place_in v s)) (sym t.columns)
                (subst (StandsIn (row_count batches) w.columns s) (sym old.1) (is.each s below old.0))
          ];
      values = λ x bytes s below known.
          elim (new_symbol s t known) [
            | inl named ↦
                ap (place_value v.matrix v.plan (packet_column session batches x) (inactive_values v x)) named.3
                ∙ given_here x (row named.0) is t bytes (t.row_below named.0 named.1) ∙ t.values x bytes named.0 named.1 ∙ ap x named.2
            | inr old ↦
                ap (place_value v.matrix v.plan (packet_column session batches x) (inactive_values v x)) old.1
                ∙ place_elsewhere x (place_in w s) is t bytes
                (beyond_untaken session batches b w s (place_in w s) is t.within t.untaken below old.0 refl (is.each s below old.0))
                ∙ is.values x bytes s below old.0
          ];
      rows_once = λ s u r in_s in_u known_s known_u at_s at_u.
          elim (new_symbol s t known_s) [
            | inl named ↦
                elim (new_symbol u t known_u) [
                  | inl other ↦
                      let same : row named.0 ≡ row other.0 =
                      omega (arith, row_is (first + row named.0) r (sym named.3 ∙ at_s), row_is (first + row other.0) r (sym other.3 ∙ at_u)) in
                      sym named.2 ∙ ap symbol (t.row_once named.0 other.0 named.1 other.1 same) ∙ other.2
                  | inr old ↦
                      absurd ((own_free (row named.0) is t (t.row_below named.0 named.1)).no_symbol u in_u old.0
                      (sym old.1 ∙ at_u ∙ sym at_s ∙ named.3))
                ]
            | inr old ↦
                elim (new_symbol u t known_u) [
                  | inl other ↦
                      absurd ((own_free (row other.0) is t (t.row_below other.0 other.1)).no_symbol s in_s old.0
                      (sym old.1 ∙ at_s ∙ sym at_u ∙ other.3))
                  | inr other ↦ is.rows_once s u r in_s in_u old.0 other.0 (sym old.1 ∙ at_s) (sym other.1 ∙ at_u)
                ]
          ];
      leftover_within = subst (All (λ r. r < row_count batches)) (sym t.leftover)
          (All-append (λ r. r < row_count batches) w.leftover new is.leftover_within
          (All-map (λ r. r < row_count batches) (λ i. first + i) zeros (λ k d h. omega (arith, room, t.zeros_below k d h))));
      leftover_once = subst (AllPairs (λ a b. a ≢ b)) (sym t.leftover)
          (apart_append w.leftover new is.leftover_once
          (λ i j d before within e.
          let long : j < length zeros = omega (arith, within, length-map zeros (λ (i : ℕ). first + i)) in
          t.zeros_once i j d before long
          (omega (
            arith,
            sym (get_or-map (λ (i : ℕ). first + i) zeros i d d (omega (arith, before, long))) ∙ e
                ∙ get_or-map (λ (i : ℕ). first + i) zeros j d d long,
          )))
          (λ r old added.
          let from = Contains-of_map (λ (i : ℕ). first + i) zeros r added in
          (own_free from.0 is t (All-contains (λ i. i < rank) zeros from.0 t.zeros_below from.1)).not_left
          (subst (Contains w.leftover) (sym from.2) old)));
      leftover_no_symbol = λ s r below known at has.
          elim (new_symbol s t known) [
            | inl named ↦
                let here : first + row named.0 ≡ r = row_is (first + row named.0) r (sym named.3 ∙ at) in
                elim (new_leftover r t has) [
                  | inl old ↦ (own_free (row named.0) is t (t.row_below named.0 named.1)).not_left (subst (Contains w.leftover) (sym here) old)
                  | inr added ↦
                      t.apart named.0 named.1 (subst (Contains zeros) (omega (arith, here, added.3)) added.2)
                ]
            | inr known_before ↦
                elim (new_leftover r t has) [
                  | inl old ↦ is.leftover_no_symbol s r below known_before.0 (sym known_before.1 ∙ at) old
                  | inr added ↦
                      (own_free added.0 is t added.1).no_symbol s below known_before.0
                      (sym known_before.1 ∙ at ∙ ap (λ (k : ℕ). Row k) (sym added.3))
                ]
          ];
      leftover_zero = λ x bytes r has.
          elim (new_leftover r t has) [
            | inl old ↦
                elim (cases_lt r first) [
                  | inl before ↦ given_elsewhere x r is t bytes (inl before) ∙ is.leftover_zero x bytes r old
                  | inr from ↦
                      elim (cases_lt r (first + rank)) [
                        | inl inside ↦
                            absurd ((own_free (r - first) is t (omega (arith, from, inside))).not_left
                            (subst (Contains w.leftover) (omega (arith, from)) old))
                        | inr after ↦ given_elsewhere x r is t bytes (inr after) ∙ is.leftover_zero x bytes r old
                      ]
                ]
            | inr added ↦
                ap (given_by session batches v x) (sym added.3) ∙ given_here x added.0 is t bytes added.1 ∙ t.zero x bytes added.0 added.2
          ];
      untouched = λ c in_c untaken i h.
          let before = still_untaken c is t untaken in
          let free = is.untouched c in_c before.1 i h in
          record {
            not_left = λ has.
                elim (new_leftover (first_row batches c + i) t has) [
                  | inl old ↦ free.not_left old
                  | inr added ↦ rows_apart batches c b i added.0 before.0 in_c t.within h added.1 (sym added.3)
                ];
            no_symbol = λ s below known at.
                elim (new_symbol s t known) [
                  | inl named ↦
                      rows_apart batches c b i (row named.0) before.0 in_c t.within h (t.row_below named.0 named.1)
                      (sym (row_is (first + row named.0) (first_row batches c + i) (sym named.3 ∙ at)))
                  | inr old ↦ free.no_symbol s below old.0 (sym old.1 ∙ at)
                ];
          };
      packets = λ x bytes c in_c untaken i d h.
          let before = still_untaken c is t untaken in
          given_elsewhere x (first_row batches c + i) is t bytes (elsewhere batches b c i before.0 t.within in_c h)
          ∙ is.packets x bytes c in_c before.1 i d h;
      settled = λ c in_c taken i h.
          elim (cases_eq c b) [
            | inl e ↦
                elim (t.covered i (subst (λ (k : ℕ). i < rank_of batches k) e h)) [
                  | inl left ↦
                      inl (subst (λ (k : ℕ). Contains v.leftover (first_row batches k + i)) (sym e)
                      (subst (λ (xs : List ℕ). Contains xs (first + i)) (sym t.leftover)
                      (Contains-append_right w.leftover new (first + i) (Contains-map (λ (i : ℕ). first + i) zeros i left))))
                  | inr named ↦
                      inr (
                        symbol named.0,
                        t.below named.0 named.1,
                        (t.names.here named.0 named.1).0,
                        (t.names.here named.0 named.1).1 ∙ ap (λ (r : ℕ). Row (first + r)) named.2
                            ∙ ap (λ (k : ℕ). Row (first_row batches k + i)) (sym e),
                      )
                ]
            | inr other ↦
                elim (is.settled c in_c
                (sym (get_or-set_other w.taken.items b c true false other) ∙ ap (λ (taken : List Bool). get_or taken c false) (sym t.taken) ∙ taken) i h) [
                  | inl left ↦
                      inl (subst (λ (xs : List ℕ). Contains xs (first_row batches c + i)) (sym t.leftover)
                      (Contains-append_left w.leftover new (first_row batches c + i) left))
                  | inr old ↦
                      let now = old_symbol old.0 t old.2 in
                      inr (old.0, old.1, now.0, now.1 ∙ old.3)
                ]
          ];
      few = λ most are.
          subst (λ (n : ℕ). length v.plan ≤ n * most)
          (sym (ap (taken_rows batches) t.taken ∙ taken_rows-set batches w.taken.items b t.within is.taken t.untaken))
          (few_more (length v.plan) (length w.plan) rank (degree_of (batch_of session (batch_at batches b).number)) (taken_rows batches w.taken.items) most
          t.few (is.few most are) (are b t.within));
    }

-- ---- places that are given

pub GivesPlaces-none : (symbol : ℕ → ℕ) (place : ℕ → Place) (places : List Place) (known : List Bool) → GivesPlaces 0 symbol place places known places known
GivesPlaces-none symbol place places known = record {
  places_size = refl;
  known_size = refl;
  here = λ i h. absurd (omega (arith, h));
  others = λ s none. (refl, refl);
}
