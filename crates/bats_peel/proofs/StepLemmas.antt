-- What the rows of a batch give once the terms of its known contributors are added, and then its own operations done.
use Rattle.std.proofs.Common.{ℕ, zero, suc, ◌≡◌, ◌≢◌, ◌<◌, ◌≤◌, ◌+◌, ◌*◌, ◌∙◌, inl, inr, Bool, true, false, List, [], ◌∷◌, ◌++◌, length, get_or, set, take, drop, sym, ap, refl, subst, arith}
use Rattle.std.specs.Prelude.{◌==◌, ◌||◌, All, AllPairs, map, if◌then◌else◌}
use Rattle.std.specs.List.{range_with_len, list_any}
use Rattle.std.proofs.lemmas.Bool.{cases_eq, cases_lt, eq-eqb, eqb-true, false_from_ne_true, true_from_ne_false, true≢false}
use Rattle.std.proofs.lemmas.List.{append-nil, drop_all, take_all, ext_get_or}
use Rattle.std.proofs.lemmas.List.FromFn.{length-map-range_with_len, get_or-map-range_with_len, get_or-range_with_len, length-range_with_len}
use Rattle.std.proofs.lemmas.List.Elements.{Contains-get_or, All-contains}
use Rattle.std.proofs.lemmas.Grind.{get_or_default_zero}
use Rattle.std.proofs.lemmas.List.Folds.{list_any_none}
use Rattle.std.proofs.Math.Nat.{mul-le-mul_left, mul-add}
use Rattle.gf_core.specs.Field.{gf_add, gf_mul, gf_sum}
use Rattle.gf_core.proofs.AddLemmas.{gf_add-zero, gf_add_self}
use Rattle.gf_core.proofs.SumLemmas.{gf_sum-zeros, gf_sum-congruence, gf_sum-gf_add}
use Rattle.gf_rows.specs.declared.operation.Op.{Op}
use Rattle.gf_rows.specs.Matrix.{Grid, matrix_entry}
use Rattle.gf_rows.specs.Plan.{plan_on_column}
use Rattle.bats_model.specs.Session.{SessionData, symbols_of}
use Rattle.bats_model.specs.Batch.{BatchData, batch_of, degree_of, contributor_of}
use Rattle.bats_model.specs.Values.{coded_value, combined_value, packet_value, AreByteValues}
use Rattle.bats_model.specs.Peeling.{is_in, local_value, with_symbols, HasAllSymbols}
use Rattle.bats_model.specs.declared.packet.Packet.{Packet}
use Rattle.bats_batch.specs.Held.{HeldBatch, batch_at, row_count}
use Rattle.bats_sampler.proofs.DistinctContributors.{AreContributors-batch_of}
use Rattle.bats_peel.specs.declared.local.Local.{Local}
use Rattle.bats_peel.specs.declared.fixing.Fixing.{Fixing}
use Rattle.bats_peel.specs.declared.peeled.Place.{Place}
use Rattle.bats_peel.specs.declared.peeled.Place.TheVariants.{Row}
use Rattle.bats_peel.specs.declared.work.Work.{Work}
use Rattle.bats_peel.specs.steps.Local.{IsLocalOf, AreLocals}
use Rattle.bats_peel.specs.steps.Fixing.{IsFixing, IsLocal, IsOutside, column_from}
use Rattle.bats_peel.specs.steps.Parts.{segment, Changes, IsBeyond, ArePlacesBeyond, known_term, contributor_term, with_terms, known_count}
use Rattle.bats_peel.specs.steps.Work.{first_row, rank_of, place_in, is_known, is_taken, packet_column, inactive_values, given_by, value_at, IsWork, GivesPlaces}
use Rattle.bats_peel.proofs.LocalLemmas.{IsLocal-of, row_count-room}
use Rattle.bats_peel.proofs.PartLemmas.{known_term-same, length-segment, get_or-segment, count_true-le, count_true-others, gf_sum-places, Changes-then}
use Rattle.bats_peel.proofs.WorkLemmas.{AreValuesOf-work, beyond_untaken, IsWork-taken, find_symbol, GivesPlaces-none}

-- this is the local of held batch b, whose kept packets are its own
pub record IsLocalFor (session : SessionData) (batches : List HeldBatch) (b : ℕ) (local : Local) : Type 0 where
  pub within : b < length batches
  pub local_of : IsLocalOf session (batch_at batches b).number (first_row batches b) (batch_at batches b).kept local
  pub own : All (λ packet. packet.batch ≡ (batch_at batches b).number) (batch_at batches b).kept

-- the values of a batch's contributors
abbrev contributor_values : Local → (ℕ → ℕ) → ℕ → ℕ
contributor_values local x k = x (contributor_of local.batch k)

local_bytes : (session : SessionData) (batches : List HeldBatch) (b : ℕ) (local : Local) (x : ℕ → ℕ) → IsLocalFor session batches b local → AreByteValues session x
    → (k : ℕ) → k < degree_of local.batch → contributor_values local x k < 256
local_bytes session batches b local x is bytes k h =
    bytes (contributor_of local.batch k)
    ((IsLocal-of session (batch_at batches b).number (first_row batches b) (batch_at batches b).kept local is.local_of).below k h)

-- ---- the value of a packet by its batch's matrix

packet_value-local : (session : SessionData) (packet : Packet) (x : ℕ → ℕ)
    → packet_value session packet x ≡ local_value session packet.batch packet.coefs (λ k. x (contributor_of (batch_of session packet.batch) k))
unfolding local_value combined_value coded_value
packet_value-local session packet x = refl

packet_row : (session : SessionData) (batches : List HeldBatch) (b i : ℕ) (local : Local) (d : Packet) (x : ℕ → ℕ) → IsLocalFor session batches b local → AreByteValues session x
    → i < rank_of batches b → packet_value session (get_or (batch_at batches b).kept i d) x
    ≡ gf_sum (degree_of local.batch) (λ k. gf_mul (matrix_entry local.matrix i k) (contributor_values local x k))
packet_row session batches b i local d x is bytes within =
    let number : ℕ = (batch_at batches b).number in
    let packet : Packet = get_or (batch_at batches b).kept i d in
    packet_value-local session packet x
    ∙ ap (λ (n : ℕ). local_value session n packet.coefs (λ k. x (contributor_of (batch_of session n) k))) (is.own i d within)
    ∙ ap (λ (batch : BatchData). local_value session number packet.coefs (λ k. x (contributor_of batch k))) (sym is.local_of.batch_is)
    ∙ sym (is.local_of.values (contributor_values local x) (local_bytes session batches b local x is bytes) i d within)
    ∙ ap (λ (n : ℕ). gf_sum n (λ k. gf_mul (matrix_entry local.matrix i k) (contributor_values local x k))) is.local_of.cols

-- what contributor k adds to row i where it isn't known
abbrev left_term : Local → ℕ → List Bool → (ℕ → ℕ) → ℕ → ℕ
left_term local i known x k =
    if is_in known (contributor_of local.batch k) then 0 else gf_mul (matrix_entry local.matrix i k) (contributor_values local x k)

cancels : (known : Bool) (factor value : ℕ) → gf_add (gf_mul factor value) (known_term known factor value) ≡ (if known then 0 else gf_mul factor value)
cancels true factor value = gf_add_self (gf_mul factor value)
cancels false factor value = gf_add-zero (gf_mul factor value)

-- once the terms of the known contributors are added, those of the others are left
left_after : (session : SessionData) (batches : List HeldBatch) (b i : ℕ) (local : Local) (w : Work) (x : ℕ → ℕ) → IsWork session batches w → IsLocalFor session batches b local
    → is_taken w b ≡ false → AreByteValues session x → i < rank_of batches b
    → with_terms (degree_of local.batch) local (local.first + i) i w.places.items w.known.items w.matrix w.plan (packet_column session batches x) (inactive_values w x)
    ≡ gf_sum (degree_of local.batch) (left_term local i w.known.items x)
left_after session batches b i local w x is at untaken bytes within =
    let degree : ℕ = degree_of local.batch in
    let none : Packet = record { batch = 0; coefs = []; payload = [] } in
    let added : ℕ → ℕ = contributor_term local i w.places.items w.known.items w.matrix w.plan (packet_column session batches x) (inactive_values w x) in
    let whole : ℕ → ℕ = λ k. gf_mul (matrix_entry local.matrix i k) (contributor_values local x k) in
    let known : ℕ → Bool = λ k. is_known w (contributor_of local.batch k) in
    let known_whole : ℕ → ℕ = λ k. known_term (known k) (matrix_entry local.matrix i k) (contributor_values local x k) in
    let local_is : IsLocal (symbols_of session) local = IsLocal-of session (batch_at batches b).number (first_row batches b) (batch_at batches b).kept local at.local_of in
    let begins : given_by session batches w x (local.first + i) ≡ gf_sum degree whole =
    ap (λ (f : ℕ). given_by session batches w x (f + i)) at.local_of.first_is ∙ is.packets x bytes b at.within untaken i none within
    ∙ packet_row session batches b i local none x at bytes within in
    ap (λ (y : ℕ). gf_add y (gf_sum degree added)) begins
    ∙ ap (gf_add (gf_sum degree whole))
    (gf_sum-congruence degree added known_whole
    (λ k h.
    known_term-same (known k) (matrix_entry local.matrix i k) (value_at session batches w x (contributor_of local.batch k)) (contributor_values local x k)
    (is.values x bytes (contributor_of local.batch k) (local_is.below k h))))
    ∙ sym (gf_sum-gf_add degree whole known_whole)
    ∙ gf_sum-congruence degree (λ k. gf_add (whole k) (known_whole k)) (left_term local i w.known.items x)
    (λ k h. cancels (known k) (matrix_entry local.matrix i k) (contributor_values local x k))

-- ---- what is asked before a batch is taken

pub room_before : (session : SessionData) (batches : List HeldBatch) (b : ℕ) (local : Local) (w : Work) → IsWork session batches w → IsLocalFor session batches b local
    → local.first + length local.matrix.rows ≤ row_count batches
room_before session batches b local w is at =
    omega (arith, at.local_of.first_is, at.local_of.rows, row_count-room batches b at.within)

pub beyond_before : (session : SessionData) (batches : List HeldBatch) (b : ℕ) (local : Local) (w : Work) → IsWork session batches w → IsLocalFor session batches b local
    → is_taken w b ≡ false → ArePlacesBeyond w.matrix local.first (length local.matrix.rows) w.places.items w.known.items
beyond_before session batches b local w is at untaken s below known =
    let low : s < symbols_of session = omega (arith, below, is.places) in
    subst (λ (f : ℕ). IsBeyond w.matrix f (length local.matrix.rows) (place_in w s)) (sym at.local_of.first_is)
    (subst (λ (n : ℕ). IsBeyond w.matrix (first_row batches b) n (place_in w s)) (sym at.local_of.rows)
    (beyond_untaken session batches b w s (place_in w s) is at.within untaken low known refl (is.each s low known)))

-- changes of a local's rows are those of the batch's
rows_of_batch : {m n : Grid} {p q : List Op} {g : List ℕ → (ℕ → ℕ) → ℕ → ℕ} (session : SessionData) (batches : List HeldBatch) (b : ℕ) (local : Local)
    → IsLocalFor session batches b local → Changes local.first (length local.matrix.rows) m n p q g → Changes (first_row batches b) (rank_of batches b) m n p q g
rows_of_batch {m} {n} {p} {q} {g} session batches b local at changes =
    subst (λ (f : ℕ). Changes f (rank_of batches b) m n p q g) at.local_of.first_is
    (subst (λ (count : ℕ). Changes local.first count m n p q g) at.local_of.rows changes)

few_after : (old new rank known degree : ℕ) → new ≤ old + rank * known → known ≤ degree → new ≤ old + rank * degree
few_after old new rank known degree more within = omega (arith, more, mul-le-mul_left rank within)

-- ---- a batch whose contributors are all known

pub IsWork-other : (session : SessionData) (batches : List HeldBatch) (b : ℕ) (local : Local) (w v : Work) → IsWork session batches w → IsLocalFor session batches b local
    → is_taken w b ≡ false → HasAllSymbols session w.known.items
    → Changes local.first (length local.matrix.rows) w.matrix v.matrix w.plan v.plan
    (λ column values i. with_terms (degree_of local.batch) local (local.first + i) i w.places.items w.known.items w.matrix w.plan column values)
    → length v.plan ≤ length w.plan + length local.matrix.rows * known_count local w.known.items (degree_of local.batch)
    → v.places.items ≡ w.places.items → v.known.items ≡ w.known.items → v.columns ≡ w.columns
    → v.leftover ≡ w.leftover ++ map (λ r. local.first + r) (range_with_len 0 (length local.matrix.rows))
    → v.taken.items ≡ set w.taken.items b true → IsWork session batches v
IsWork-other session batches b local w v is at untaken all changes few places known columns left taken =
    let rank : ℕ = rank_of batches b in
    let gives : List ℕ → (ℕ → ℕ) → ℕ → ℕ =
    λ column values i. with_terms (degree_of local.batch) local (local.first + i) i w.places.items w.known.items w.matrix w.plan column values in
    let local_is : IsLocal (symbols_of session) local = IsLocal-of session (batch_at batches b).number (first_row batches b) (batch_at batches b).kept local at.local_of in
    IsWork-taken session batches b w v gives 0 (λ i. i) (λ i. i) (range_with_len 0 rank) is
    (record {
      within = at.within;
      untaken = untaken;
      changes = rows_of_batch session batches b local at changes;
      names = subst (λ (ps : List Place). GivesPlaces 0 (λ i. i) (λ i. Row (first_row batches b + i)) w.places.items w.known.items ps v.known.items) (sym places)
          (subst (λ (ks : List Bool). GivesPlaces 0 (λ i. i) (λ i. Row (first_row batches b + i)) w.places.items w.known.items w.places.items ks) (sym known)
          (GivesPlaces-none (λ i. i) (λ i. Row (first_row batches b + i)) w.places.items w.known.items));
      below = λ i h. absurd (omega (arith, h));
      new = λ i h. absurd (omega (arith, h));
      row_below = λ i h. absurd (omega (arith, h));
      row_once = λ i k h. absurd (omega (arith, h));
      leftover = left ∙ ap (λ (f : ℕ). w.leftover ++ map (λ r. f + r) (range_with_len 0 (length local.matrix.rows))) at.local_of.first_is
          ∙ ap (λ (n : ℕ). w.leftover ++ map (λ r. first_row batches b + r) (range_with_len 0 n)) at.local_of.rows;
      zeros_below = λ k d h.
          let low : k < rank = omega (arith, h, length-range_with_len 0 rank) in
          omega (arith, get_or-range_with_len 0 rank k d low, low);
      zeros_once = λ i j d before h e.
          let low : j < rank = omega (arith, h, length-range_with_len 0 rank) in
          omega (arith, get_or-range_with_len 0 rank i d (omega (arith, before, low)), get_or-range_with_len 0 rank j d low, e, before);
      apart = λ i h. absurd (omega (arith, h));
      covered = λ r h. inl (r, omega (arith, h, length-range_with_len 0 rank), get_or-range_with_len 0 rank r r h ∙ omega arith);
      columns = columns;
      taken = taken;
      values = λ x bytes i h. absurd (omega (arith, h));
      zero = λ x bytes r has.
          let low : r < rank = omega (
            arith,
            has.1,
            has.2,
            length-range_with_len 0 rank,
            get_or-range_with_len 0 rank has.0 r (omega (arith, has.1, length-range_with_len 0 rank)),
          ) in
          left_after session batches b r local w x is at untaken bytes low
          ∙ gf_sum-zeros (degree_of local.batch) (left_term local r w.known.items x)
          (λ k h.
          ap (λ (known : Bool). if known then 0 else gf_mul (matrix_entry local.matrix r k) (contributor_values local x k))
          (all (contributor_of local.batch k) (local_is.below k h)));
      few = subst (λ (n : ℕ). length v.plan ≤ length w.plan + n * degree_of (batch_of session (batch_at batches b).number)) at.local_of.rows
          (subst (λ (batch : BatchData). length v.plan ≤ length w.plan + length local.matrix.rows * degree_of batch) at.local_of.batch_is
          (few_after (length w.plan) (length v.plan) (length local.matrix.rows) (known_count local w.known.items (degree_of local.batch)) (degree_of local.batch) few
          (count_true-le (degree_of local.batch) (λ k. is_in w.known.items (contributor_of local.batch k)))));
    })

-- ---- from what the calls say

pub IsLocalFor-at : (session : SessionData) (batches : List HeldBatch) (locals : List Local) (b : ℕ) (local : Local) (kept : List Packet) → AreLocals session batches locals
    → b < length locals → local ≡ get_or locals b local → kept ≡ (batch_at batches b).kept → All (λ packet. packet.batch ≡ (batch_at batches b).number) kept
    → IsLocalFor session batches b local
IsLocalFor-at session batches locals b local kept are low at same own =
    let within : b < length batches = omega (arith, low, are.size) in
    record {
      within = within;
      local_of = subst (IsLocalOf session (batch_at batches b).number (first_row batches b) (batch_at batches b).kept)
          (sym at) (are.each b local within);
      own = subst (All (λ packet. packet.batch ≡ (batch_at batches b).number)) same own;
    }

pub IsLocal-for : (session : SessionData) (batches : List HeldBatch) (b symbols : ℕ) (local : Local) → IsLocalFor session batches b local → symbols ≡ symbols_of session
    → IsLocal symbols local
IsLocal-for session batches b symbols local at is =
    subst (λ (n : ℕ). IsLocal n local) (sym is)
    (IsLocal-of session (batch_at batches b).number (first_row batches b) (batch_at batches b).kept local at.local_of)

-- places and marks that were lent
pub changes_in : (local : Local) (w : Work) (m : Grid) (p : List Op) (places : List Place) (known : List Bool) → places ≡ w.places.items → known ≡ w.known.items
    → Changes local.first (length local.matrix.rows) w.matrix m w.plan p
    (λ column values i. with_terms (degree_of local.batch) local (local.first + i) i places known w.matrix w.plan column values)
    → Changes local.first (length local.matrix.rows) w.matrix m w.plan p
    (λ column values i. with_terms (degree_of local.batch) local (local.first + i) i w.places.items w.known.items w.matrix w.plan column values)
changes_in local w m p places known ps ks changes =
    subst (λ (xs : List Place). Changes local.first (length local.matrix.rows) w.matrix m w.plan p
    (λ column values i. with_terms (degree_of local.batch) local (local.first + i) i xs w.known.items w.matrix w.plan column values)) ps
    (subst (λ (xs : List Bool). Changes local.first (length local.matrix.rows) w.matrix m w.plan p
    (λ column values i. with_terms (degree_of local.batch) local (local.first + i) i places xs w.matrix w.plan column values)) ks changes)

pub beyond_in : (m : Grid) (first count : ℕ) (w : Work) (places : List Place) (known : List Bool) → places ≡ w.places.items → known ≡ w.known.items
    → ArePlacesBeyond m first count w.places.items w.known.items → ArePlacesBeyond m first count places known
beyond_in m first count w places known ps ks beyond =
    subst (λ (xs : List Place). ArePlacesBeyond m first count xs known) (sym ps)
    (subst (λ (xs : List Bool). ArePlacesBeyond m first count w.places.items xs) (sym ks) beyond)

pub count_in : (local : Local) (w : Work) (p : List Op) (known : List Bool) → known ≡ w.known.items
    → length p ≤ length w.plan + length local.matrix.rows * known_count local known (degree_of local.batch)
    → length p ≤ length w.plan + length local.matrix.rows * known_count local w.known.items (degree_of local.batch)
count_in local w p known ks few =
    subst (λ (xs : List Bool). length p ≤ length w.plan + length local.matrix.rows * known_count local xs (degree_of local.batch)) ks few

-- ---- a batch that fixes its other contributors

-- two entries of a list of distinct numbers are one where they are equal
index_once : (xs : List ℕ) (i k : ℕ) → AllPairs (λ a b. a ≢ b) xs → i < length xs → k < length xs → get_or xs i 0 ≡ get_or xs k 0 → i ≡ k
index_once xs i k once in_i in_k same =
    elim (cases_eq i k) [
      | inl e ↦ e
      | inr other ↦
          elim (cases_lt i k) [
            | inl before ↦ absurd (once i k 0 before in_k same)
            | inr after ↦ absurd (once k i 0 (omega (arith, after, other)) in_i (sym same))
          ]
    ]

pub places_below : (local : Local) (set : List Bool) (fixing : Fixing) → IsFixing local set fixing → (k : ℕ) → k < length fixing.places
    → IsOutside local set (get_or fixing.places k 0)
places_below local set fixing is k h = (is.places_are (get_or fixing.places k 0)).0 (Contains-get_or fixing.places k 0 h)

pub rows_below : (local : Local) (set : List Bool) (fixing : Fixing) → IsFixing local set fixing → All (λ r. r < length local.matrix.rows) fixing.rows
rows_below local set fixing is k d h = (is.each_row (get_or fixing.rows k d)).1 (inl (Contains-get_or fixing.rows k d h))

pub zero_rows_below : (local : Local) (set : List Bool) (fixing : Fixing) → IsFixing local set fixing → All (λ r. r < length local.matrix.rows) fixing.zero_rows
zero_rows_below local set fixing is k d h = (is.each_row (get_or fixing.zero_rows k d)).1 (inr (Contains-get_or fixing.zero_rows k d h))

contributors_once : (session : SessionData) (batches : List HeldBatch) (b : ℕ) (local : Local) → IsLocalFor session batches b local
    → AllPairs (λ a b. a ≢ b) local.batch.contributors
contributors_once session batches b local at =
    subst (λ (batch : BatchData). AllPairs (λ a b. a ≢ b) batch.contributors) (sym at.local_of.batch_is)
    (AreContributors-batch_of session (batch_at batches b).number).distinct

pub symbols_once : (session : SessionData) (batches : List HeldBatch) (b : ℕ) (local : Local) (set : List Bool) (fixing : Fixing) → IsLocalFor session batches b local
    → IsFixing local set fixing → (i k : ℕ) → i < length fixing.places → k < length fixing.places
    → contributor_of local.batch (get_or fixing.places i 0) ≡ contributor_of local.batch (get_or fixing.places k 0) → i ≡ k
symbols_once session batches b local set fixing at is i k in_i in_k same =
    index_once fixing.places i k is.places_once in_i in_k
    (index_once local.batch.contributors (get_or fixing.places i 0) (get_or fixing.places k 0) (contributors_once session batches b local at)
    (places_below local set fixing is i in_i).0 (places_below local set fixing is k in_k).0 same)

-- the batch's rows before its own operations are the column of the contributors outside
segment_left : (session : SessionData) (batches : List HeldBatch) (b : ℕ) (local : Local) (fixing : Fixing) (w : Work) (n : Grid) (q : List Op) (x : ℕ → ℕ)
    → IsWork session batches w → IsLocalFor session batches b local → is_taken w b ≡ false → IsFixing local w.known.items fixing → AreByteValues session x
    → Changes local.first (length local.matrix.rows) w.matrix n w.plan q
    (λ column values i. with_terms (degree_of local.batch) local (local.first + i) i w.places.items w.known.items w.matrix w.plan column values)
    → segment n q (packet_column session batches x) (inactive_values w x) local.first (length local.matrix.rows)
    ≡ column_from local fixing.places (contributor_values local x)
segment_left session batches b local fixing w n q x is at untaken fixes bytes changes =
    let rank : ℕ = length local.matrix.rows in
    let column : List ℕ = packet_column session batches x in
    let values : ℕ → ℕ = inactive_values w x in
    let from : ℕ → ℕ = λ r. gf_sum (length fixing.places)
    (λ i. gf_mul (matrix_entry local.matrix r (get_or fixing.places i 0)) (contributor_values local x (get_or fixing.places i 0))) in
    let term : ℕ → ℕ → ℕ = λ r k. gf_mul (matrix_entry local.matrix r k) (contributor_values local x k) in
    ext_get_or 0 (segment n q column values local.first rank) (column_from local fixing.places (contributor_values local x))
    (length-segment n q column values local.first rank ∙ sym (length-map-range_with_len from 0 rank))
    (λ i h.
    let low : i < rank = omega (arith, h, length-segment n q column values local.first rank) in
    let sum : gf_sum (degree_of local.batch) (left_term local i w.known.items x) ≡ gf_sum (length fixing.places) (λ j. left_term local i w.known.items x (get_or fixing.places j 0)) =
    gf_sum-places (degree_of local.batch) (left_term local i w.known.items x) fixing.places
    (λ k d h. (places_at k d h).0) fixes.places_once
    (λ k below none.
    ap (λ (known : Bool). if known then 0 else term i k)
    (true_from_ne_false (is_in w.known.items (contributor_of local.batch k)) (λ outside. none ((fixes.places_are k).1 (below, outside))))) in
    get_or-segment n q column values local.first rank i low
    ∙ changes.here column values (AreValuesOf-work session batches w x is bytes) i low
    ∙ left_after session batches b i local w x is at untaken bytes (omega (arith, low, at.local_of.rows))
    ∙ sum
    ∙ gf_sum-congruence (length fixing.places) (λ j. left_term local i w.known.items x (get_or fixing.places j 0)) (λ j. term i (get_or fixing.places j 0))
    (λ j h. ap (λ (known : Bool). if known then 0 else term i (get_or fixing.places j 0)) (places_below local w.known.items fixing fixes j h).1)
    ∙ sym (get_or-map-range_with_len from 0 rank i i 0 low (omega arith)))
  where
    places_at : (k d : ℕ) → k < length fixing.places → IsOutside local w.known.items (get_or fixing.places k d)
    places_at k d h = (fixes.places_are (get_or fixing.places k d)).0 (Contains-get_or fixing.places k d h)

few_in_all : (old middle new rank known places degree ops : ℕ) → middle ≤ old + rank * known → new ≡ middle + ops → ops ≤ rank * places → known + places ≤ degree
    → new ≤ old + rank * degree
few_in_all old middle new rank known places degree ops first next few within =
    omega (arith, first, next, few, mul-le-mul_left rank within, mul-add rank known places)

pub IsWork-step : (session : SessionData) (batches : List HeldBatch) (b : ℕ) (local : Local) (fixing : Fixing) (w v : Work) (n : Grid) (q : List Op)
    → IsWork session batches w → IsLocalFor session batches b local → is_taken w b ≡ false → IsFixing local w.known.items fixing
    → Changes local.first (length local.matrix.rows) w.matrix n w.plan q
    (λ column values i. with_terms (degree_of local.batch) local (local.first + i) i w.places.items w.known.items w.matrix w.plan column values)
    → length q ≤ length w.plan + length local.matrix.rows * known_count local w.known.items (degree_of local.batch)
    → Changes local.first (length local.matrix.rows) n v.matrix q v.plan
    (λ column values i. get_or (plan_on_column fixing.plan (segment n q column values local.first (length local.matrix.rows))) i 0)
    → length v.plan ≡ length q + length fixing.plan
    → GivesPlaces (length fixing.places) (λ i. contributor_of local.batch (get_or fixing.places i 0)) (λ i. Row (local.first + get_or fixing.rows i 0))
    w.places.items w.known.items v.places.items v.known.items
    → v.columns ≡ w.columns → v.leftover ≡ w.leftover ++ map (λ r. local.first + r) fixing.zero_rows
    → v.taken.items ≡ set w.taken.items b true → IsWork session batches v
IsWork-step session batches b local fixing w v n q is at untaken fixes changes few replayed count names columns left taken =
    let rank : ℕ = rank_of batches b in
    let rows : ℕ = length local.matrix.rows in
    let gives : List ℕ → (ℕ → ℕ) → ℕ → ℕ = λ column values i. get_or (plan_on_column fixing.plan (segment n q column values local.first rows)) i 0 in
    let symbol : ℕ → ℕ = λ i. contributor_of local.batch (get_or fixing.places i 0) in
    let row : ℕ → ℕ = λ i. get_or fixing.rows i 0 in
    let local_is : IsLocal (symbols_of session) local = IsLocal-of session (batch_at batches b).number (first_row batches b) (batch_at batches b).kept local at.local_of in
    let outside : (i : ℕ) → i < length fixing.places → IsOutside local w.known.items (get_or fixing.places i 0) = places_below local w.known.items fixing fixes in
    let from : (x : ℕ → ℕ) → AreByteValues session x → (r : ℕ) → gives (packet_column session batches x) (inactive_values w x) r
    ≡ get_or (plan_on_column fixing.plan (column_from local fixing.places (contributor_values local x))) r 0 =
    λ x bytes r. ap (λ (ys : List ℕ). get_or (plan_on_column fixing.plan ys) r 0)
    (segment_left session batches b local fixing w n q x is at untaken fixes bytes changes) in
    IsWork-taken session batches b w v gives (length fixing.places) symbol row fixing.zero_rows is
    (record {
      within = at.within;
      untaken = untaken;
      changes = rows_of_batch session batches b local at (Changes-then changes replayed);
      names = subst (λ (f : ℕ). GivesPlaces (length fixing.places) symbol (λ i. Row (f + row i)) w.places.items w.known.items v.places.items v.known.items)
          at.local_of.first_is names;
      below = λ i h. local_is.below (get_or fixing.places i 0) (outside i h).0;
      new = λ i h. (outside i h).1;
      row_below = λ i h.
          let low : row i < rows = rows_below local w.known.items fixing fixes i 0 (omega (arith, h, fixes.size)) in
          omega (arith, low, at.local_of.rows);
      row_once = λ i k in_i in_k same. index_once fixing.rows i k fixes.rows_once (omega (arith, in_i, fixes.size)) (omega (arith, in_k, fixes.size)) same;
      leftover = left ∙ ap (λ (f : ℕ). w.leftover ++ map (λ r. f + r) fixing.zero_rows) at.local_of.first_is;
      zeros_below = λ k d h. omega (arith, zero_rows_below local w.known.items fixing fixes k d h, at.local_of.rows);
      zeros_once = fixes.zero_rows_once;
      apart = λ i h. fixes.apart i 0 (omega (arith, h, fixes.size));
      covered = λ r h.
          elim ((fixes.each_row r).0 (omega (arith, h, at.local_of.rows))) [
            | inl has ↦ inr (has.0, omega (arith, has.1, fixes.size), sym (get_or_default_zero fixing.rows has.0 r has.1) ∙ has.2)
            | inr has ↦ inl has
          ];
      columns = columns;
      taken = taken;
      values = λ x bytes i h. from x bytes (row i) ∙ fixes.gives (contributor_values local x) (local_bytes session batches b local x at bytes) i h;
      zero = λ x bytes r has.
          from x bytes r
          ∙ All-contains (λ r. get_or (plan_on_column fixing.plan (column_from local fixing.places (contributor_values local x))) r 0 ≡ 0) fixing.zero_rows r
          (fixes.zero (contributor_values local x) (local_bytes session batches b local x at bytes)) has;
      few = subst (λ (n : ℕ). length v.plan ≤ length w.plan + n * degree_of (batch_of session (batch_at batches b).number)) at.local_of.rows
          (subst (λ (batch : BatchData). length v.plan ≤ length w.plan + rows * degree_of batch) at.local_of.batch_is
          (few_in_all (length w.plan) (length q) (length v.plan) rows (known_count local w.known.items (degree_of local.batch)) (length fixing.places)
          (degree_of local.batch) (length fixing.plan) few count fixes.few
          (count_true-others (degree_of local.batch) (λ k. is_in w.known.items (contributor_of local.batch k)) fixing.places
          (λ k d h. ((fixes.places_are (get_or fixing.places k d)).0 (Contains-get_or fixing.places k d h)).0) fixes.places_once
          (λ k d h. ((fixes.places_are (get_or fixing.places k d)).0 (Contains-get_or fixing.places k d h)).1))));
    })

-- ---- what is known after a batch

with_true : (b : Bool) → (b || true) ≡ true
with_true true = refl
with_true false = refl

true_with : (b : Bool) → (true || b) ≡ true
true_with true = refl
true_with false = refl

known_or : (b m : Bool) → (b ≡ false → m ≡ false) → b ≡ (b || m)
known_or true true h = refl
known_or true false h = refl
known_or false true h = absurd (true≢false (h refl))
known_or false false h = refl

pub any_at : (s : ℕ) (xs : List ℕ) (k : ℕ) → k < length xs → get_or xs k 0 ≡ s → list_any (λ u. u == s) xs ≡ true
any_at s [] k h e = absurd (omega (arith, h))
any_at s (x ∷ xs) zero h e = ap (λ (b : Bool). b || list_any (λ u. u == s) xs) (eq-eqb x s e) ∙ true_with (list_any (λ u. u == s) xs)
any_at s (x ∷ xs) (suc k) h e = ap (λ (b : Bool). (x == s) || b) (any_at s xs k (omega (arith, h)) e) ∙ with_true (x == s)

pub known_after : (session : SessionData) (local : Local) (fixing : Fixing) (places new_places : List Place) (known new_known : List Bool) (place : ℕ → Place)
    → length known ≡ symbols_of session → IsLocal (symbols_of session) local → IsFixing local known fixing
    → GivesPlaces (length fixing.places) (λ i. contributor_of local.batch (get_or fixing.places i 0)) place places known new_places new_known
    → new_known ≡ with_symbols session known local.batch.contributors
unfolding with_symbols
known_after session local fixing places new_places known new_known place size is fixes gives =
    let n : ℕ = symbols_of session in
    let contributors : List ℕ = local.batch.contributors in
    let symbol : ℕ → ℕ = λ i. contributor_of local.batch (get_or fixing.places i 0) in
    let member : ℕ → Bool = λ s. list_any (λ u. u == s) contributors in
    let after : ℕ → Bool = λ s. is_in known s || member s in
    let there : (s k : ℕ) → k < degree_of local.batch → contributor_of local.batch k ≡ s → member s ≡ true =
    λ s k h e. any_at s contributors k h e in
    let value : (s : ℕ) → s < n → get_or new_known s false ≡ after s =
    λ s low.
    elim (find_symbol (length fixing.places) symbol s) [
      | inl found ↦
          ap (λ (u : ℕ). get_or new_known u false) (sym found.2) ∙ (gives.here found.0 found.1).0
          ∙ sym (ap (λ (b : Bool). is_in known s || b) (there s (get_or fixing.places found.0 0) (places_below local known fixing fixes found.0 found.1).0 found.2)
          ∙ with_true (is_in known s))
      | inr none ↦
          (gives.others s none).0
          ∙ known_or (is_in known s) (member s)
          (λ unknown.
          list_any_none (λ u. u == s) contributors (λ k d h.
          false_from_ne_true (get_or contributors k d == s) (λ e.
          let here : contributor_of local.batch k ≡ s = sym (get_or_default_zero contributors k d h) ∙ eqb-true (get_or contributors k d) s e in
          let has = (fixes.places_are k).1 (h, ap (is_in known) here ∙ unknown) in
          none has.0 has.1
          (ap (contributor_of local.batch) (sym (get_or_default_zero fixing.places has.0 k has.1) ∙ has.2) ∙ here))))
    ] in
    ext_get_or false new_known (map after (range_with_len 0 n))
    (gives.known_size ∙ size ∙ sym (length-map-range_with_len after 0 n))
    (λ s h.
    let low : s < n = omega (arith, h, gives.known_size, size) in
    value s low ∙ sym (get_or-map-range_with_len after 0 n s s false low (omega arith)))

-- ---- lists that were lent and written

whole : {X : Type 0} (n : ℕ) (new old : List X) → n ≡ length old → length new ≡ length old → take n (new ++ drop (length new) old) ≡ new
whole n new old size same =
    ap (λ (k : ℕ). take n (new ++ drop k old)) same ∙ ap (λ (rest : List _). take n (new ++ rest)) (drop_all (length old) old (omega arith))
    ∙ ap (λ (xs : List _). take n xs) (append-nil new) ∙ take_all n new (omega (arith, size, same))

pub names_at : {count : ℕ} {symbol : ℕ → ℕ} {place : ℕ → Place} (n k : ℕ) (old_places places new_places : List Place) (old_known known new_known : List Bool)
    → n ≡ length old_places → k ≡ length old_known → places ≡ old_places → known ≡ old_known → GivesPlaces count symbol place places known new_places new_known
    → GivesPlaces count symbol place old_places old_known (take n (new_places ++ drop (length new_places) old_places)) (take k (new_known ++ drop (length new_known) old_known))
names_at {count} {symbol} {place} n k old_places places new_places old_known known new_known np nk ps ks gives =
    let first : take n (new_places ++ drop (length new_places) old_places) ≡ new_places =
    whole n new_places old_places np (gives.places_size ∙ ap (λ (xs : List Place). length xs) ps) in
    let second : take k (new_known ++ drop (length new_known) old_known) ≡ new_known =
    whole k new_known old_known nk (gives.known_size ∙ ap (λ (xs : List Bool). length xs) ks) in
    subst (λ (xs : List Place). GivesPlaces count symbol place old_places old_known xs (take k (new_known ++ drop (length new_known) old_known))) (sym first)
    (subst (λ (xs : List Bool). GivesPlaces count symbol place old_places old_known new_places xs) (sym second)
    (subst (λ (xs : List Place). GivesPlaces count symbol place xs old_known new_places new_known) ps
    (subst (λ (xs : List Bool). GivesPlaces count symbol place places xs new_places new_known) ks gives)))

pub names_in : {count : ℕ} {symbol : ℕ → ℕ} {place : ℕ → Place} (w : Work) (places new_places : List Place) (known new_known : List Bool)
    → places ≡ w.places.items → known ≡ w.known.items → GivesPlaces count symbol place places known new_places new_known
    → GivesPlaces count symbol place w.places.items w.known.items (take w.places.len (new_places ++ drop (length new_places) w.places.items))
    (take w.known.len (new_known ++ drop (length new_known) w.known.items))
names_in w places new_places known new_known ps ks gives =
    names_at w.places.len w.known.len w.places.items places new_places w.known.items known new_known w.places.ok.0 w.known.ok.0 ps ks gives

pub replayed_in : {m n : Grid} {p q : List Op} (first count rows : ℕ) (plan : List Op) → count ≡ rows
    → Changes first count m n p q (λ column values i. get_or (plan_on_column plan (segment m p column values first count)) i 0)
    → Changes first rows m n p q (λ column values i. get_or (plan_on_column plan (segment m p column values first rows)) i 0)
replayed_in {m} {n} {p} {q} first count rows plan same changes =
    subst (λ (k : ℕ). Changes first k m n p q (λ column values i. get_or (plan_on_column plan (segment m p column values first k)) i 0)) same changes
