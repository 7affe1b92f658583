-- Held batches as small matrices, written one entry after another.
use Rattle.std.proofs.Common.{ℕ, ◌≡◌, ◌<◌, ◌≤◌, ◌+◌, ◌∙◌, sym, ap, refl, subst, arith, inl, inr, List, [], ◌∷◌, ◌++◌, length, replicate, take, get_or, set, Some}
use Rattle.std.specs.Prelude.{slice_get, sum_by}
use Rattle.std.proofs.lemmas.Bool.{cases_eq}
use Rattle.std.proofs.lemmas.List.{length_push, take_more, length-replicate, get_or_push, get_or_append_left, get_or-set_same, get_or-set_other}
use Rattle.std.proofs.lemmas.List.Elements.{All-replicate}
use Rattle.std.proofs.lemmas.List.Sums.{sum_by_push, sum_by-take-le}
use Rattle.std.proofs.lemmas.Option.{get_or_from_slice_get}
use Rattle.gf_core.specs.Field.{gf_mul, gf_sum}
use Rattle.gf_core.specs.Bytes.{AreBytes}
use Rattle.gf_core.proofs.SumLemmas.{gf_sum-congruence, gf_sum-exchange}
use Rattle.gf_core.proofs.ProductLemmas.{gf_mul-gf_sum, gf_mul-gf_sum_left, gf_mul_assoc}
use Rattle.gf_rows.specs.Matrix.{Grid, IsMatrix, matrix_row, matrix_entry, with_matrix_row}
use Rattle.gf_rows.proofs.MatrixLemmas.{matrix_row-with_matrix_row_same, matrix_row-with_matrix_row_other, length-with_matrix_row}
use Rattle.bats_model.specs.Session.{SessionData, symbols_of}
use Rattle.bats_model.specs.Batch.{BatchData, batch_of, degree_of, contributor_of, entry_of}
use Rattle.bats_model.specs.Peeling.{local_value}
use Rattle.bats_model.specs.declared.packet.Packet.{Packet}
use Rattle.bats_model.proofs.EachBatch.{entry_of-lt, contributor_of-lt}
use Rattle.bats_model.proofs.SystematicBatches.{columns-batch_of}
use Rattle.bats_batch.specs.Held.{HeldBatch, no_batch, batch_at, row_count}
use Rattle.bats_peel.specs.declared.local.Local.{Local}
use Rattle.bats_peel.specs.steps.Local.{IsLocalOf, IsLocalAt, AreLocals, local_factor, WritesEntries, HasFactors, IsLocalMatrix, HaveLocals}
use Rattle.bats_peel.specs.steps.Fixing.{IsLocal}

-- ---- the entries of a row

pub WritesEntries-none : (entry : ℕ → ℕ) (r : ℕ) (m : Grid) → IsMatrix m → WritesEntries entry 0 r m m
WritesEntries-none entry r m matrix = record {
  matrix = matrix;
  cols = refl;
  rows = refl;
  entries = λ j h. absurd (omega arith);
  others = λ i other. refl;
}

-- one more entry
pub WritesEntries-more : (entry : ℕ → ℕ) (k r written : ℕ) (before m after : Grid)
    → WritesEntries entry k r before m → IsMatrix after → r < length m.rows → k < m.cols → written ≡ entry k
    → after ≡ with_matrix_row m r (set (matrix_row m r) k written) → WritesEntries entry (k + 1) r before after
WritesEntries-more entry k r written before m after writes matrix row column by is =
    let old : List ℕ = matrix_row m r in
    let new : List ℕ = set old k written in
    let long : length old ≡ m.cols = writes.matrix.widths r [] row in
    let same : matrix_row after r ≡ new = ap (λ (g : Grid). matrix_row g r) is ∙ matrix_row-with_matrix_row_same m r new row in
    record {
      matrix = matrix;
      cols = ap (λ (g : Grid). g.cols) is ∙ writes.cols;
      rows = ap (λ (g : Grid). length g.rows) is ∙ length-with_matrix_row m r new ∙ writes.rows;
      entries = λ j h. ap (λ (ys : List ℕ). get_or ys j 0) same ∙ elim (cases_eq j k) [
        | inl e ↦ ap (λ (n : ℕ). get_or new n 0) e ∙ get_or-set_same old k written 0 (omega arith) ∙ by ∙ ap entry (sym e)
        | inr other ↦ get_or-set_other old k j written 0 other ∙ writes.entries j (omega arith)
      ];
      others = λ i other.
          ap (λ (g : Grid). matrix_row g i) is ∙ matrix_row-with_matrix_row_other m r i new other ∙ writes.others i other;
    }

-- coefficients times a row of the generator
pub factor-dot : (batch : BatchData) (coefs row : List ℕ) (k : ℕ) → length coefs ≡ batch.columns
    → ((j : ℕ) → j < batch.columns → get_or row j 0 ≡ entry_of batch k j)
    → gf_sum (length coefs) (λ j. gf_mul (get_or coefs j 0) (get_or row j 0)) ≡ local_factor batch coefs k
factor-dot batch coefs row k size entries =
    ap (λ (n : ℕ). gf_sum n (λ j. gf_mul (get_or coefs j 0) (get_or row j 0))) size
    ∙ gf_sum-congruence batch.columns (λ j. gf_mul (get_or coefs j 0) (get_or row j 0))
    (λ j. gf_mul (get_or coefs j 0) (entry_of batch k j)) (λ j l. ap (gf_mul (get_or coefs j 0)) (entries j l))

-- ---- packets one after another

pub HasFactors-none : (batch : BatchData) (kept : List Packet) (m : Grid) (rows cols : ℕ) → rows ≡ length kept → cols ≡ degree_of batch
    → m ≡ record { cols = cols; rows = replicate rows (replicate cols 0) } → HasFactors batch kept 0 m
HasFactors-none batch kept m rows cols count width is =
    let zeros : Grid = record { cols = cols; rows = replicate rows (replicate cols 0) } in
    let matrix : IsMatrix zeros = record {
      widths = All-replicate (λ row. length row ≡ cols) rows (replicate cols 0) (length-replicate cols 0);
      bytes = All-replicate AreBytes rows (replicate cols 0) (All-replicate (λ byte. byte < 256) cols 0 (omega arith));
    } in
    record {
      matrix = subst IsMatrix (sym is) matrix;
      cols = ap (λ (g : Grid). g.cols) is ∙ width;
      rows = ap (λ (g : Grid). length g.rows) is ∙ length-replicate rows (replicate cols 0) ∙ count;
      entries = λ i k d h within. absurd (omega arith);
    }

-- one more packet
pub HasFactors-more : (batch : BatchData) (kept : List Packet) (packet : Packet) (coefs : List ℕ) (i : ℕ) (before after : Grid)
    → HasFactors batch kept i before → slice_get kept i ≡ Some packet → coefs ≡ packet.coefs
    → WritesEntries (local_factor batch coefs) (degree_of batch) i before after → HasFactors batch kept (i + 1) after
HasFactors-more batch kept packet coefs i before after has at own writes = record {
  matrix = writes.matrix;
  cols = writes.cols ∙ has.cols;
  rows = writes.rows ∙ has.rows;
  entries = λ r k d h within. elim (cases_eq r i) [
    | inl e ↦
        let here : coefs ≡ (get_or kept r d).coefs =
        own ∙ ap (λ (p : Packet). p.coefs) (sym (ap (λ (n : ℕ). get_or kept n d) e ∙ get_or_from_slice_get kept i packet d at)) in
        ap (λ (n : ℕ). matrix_entry after n k) e ∙ writes.entries k within ∙ ap (λ (cs : List ℕ). local_factor batch cs k) here
    | inr other ↦ ap (λ (ys : List ℕ). get_or ys k 0) (writes.others r other) ∙ has.entries r k d (omega arith) within
  ];
}

-- ---- what a row makes of values

-- the sum over k of a sum over j, each times the value at k, is the sum over j of the sums over k
sums-exchanged : (d m : ℕ) (coef value : ℕ → ℕ) (entry : ℕ → ℕ → ℕ) → ((k j : ℕ) → entry k j < 256) → ((k : ℕ) → k < d → value k < 256)
    → gf_sum d (λ k. gf_mul (gf_sum m (λ j. gf_mul (coef j) (entry k j))) (value k))
    ≡ gf_sum m (λ j. gf_mul (coef j) (gf_sum d (λ k. gf_mul (entry k j) (value k))))
sums-exchanged d m coef value entry bytes values =
    let product : ℕ → ℕ → ℕ = λ k j. gf_mul (coef j) (gf_mul (entry k j) (value k)) in
    gf_sum-congruence d (λ k. gf_mul (gf_sum m (λ j. gf_mul (coef j) (entry k j))) (value k)) (λ k. gf_sum m (product k))
    (λ k l.
    gf_mul-gf_sum_left m (λ j. gf_mul (coef j) (entry k j)) (value k)
    ∙ gf_sum-congruence m (λ j. gf_mul (gf_mul (coef j) (entry k j)) (value k)) (product k)
    (λ j q. gf_mul_assoc (coef j) (entry k j) (value k) (bytes k j) (values k l)))
    ∙ gf_sum-exchange d m product
    ∙ gf_sum-congruence m (λ j. gf_sum d (λ k. product k j)) (λ j. gf_mul (coef j) (gf_sum d (λ k. gf_mul (entry k j) (value k))))
    (λ j l. sym (gf_mul-gf_sum (coef j) d (λ k. gf_mul (entry k j) (value k))))

factors-local_value : (session : SessionData) (number : ℕ) (coefs : List ℕ) (x : ℕ → ℕ)
    → ((k : ℕ) → k < degree_of (batch_of session number) → x k < 256)
    → gf_sum (degree_of (batch_of session number)) (λ k. gf_mul (local_factor (batch_of session number) coefs k) (x k))
    ≡ local_value session number coefs x
unfolding local_value
factors-local_value session number coefs x bytes =
    let batch : BatchData = batch_of session number in
    let term : ℕ → ℕ = λ j. gf_mul (get_or coefs j 0) (gf_sum (degree_of batch) (λ k. gf_mul (entry_of batch k j) (x k))) in
    sums-exchanged (degree_of batch) batch.columns (λ j. get_or coefs j 0) x (entry_of batch) (entry_of-lt session number) bytes
    ∙ ap (λ (n : ℕ). gf_sum n term) (columns-batch_of session number)

-- a matrix of these factors, beside its batch
pub IsLocalOf-factors : (session : SessionData) (number first : ℕ) (kept : List Packet) (local : Local) → local.first ≡ first
    → local.batch ≡ batch_of session number → IsLocalMatrix local.batch kept local.matrix → IsLocalOf session number first kept local
IsLocalOf-factors session number first kept local place is written =
    let batch : BatchData = local.batch in
    record {
      first_is = place;
      batch_is = is;
      is_batch = written.is_batch;
      matrix = written.factors.matrix;
      cols = written.factors.cols;
      rows = written.factors.rows;
      values = λ x bytes i d within.
          let coefs : List ℕ = (get_or kept i d).coefs in
          ap (λ (n : ℕ). gf_sum n (λ k. gf_mul (matrix_entry local.matrix i k) (x k))) written.factors.cols
          ∙ gf_sum-congruence (degree_of batch) (λ k. gf_mul (matrix_entry local.matrix i k) (x k)) (λ k. gf_mul (local_factor batch coefs k) (x k))
          (λ k h. ap (λ (y : ℕ). gf_mul y (x k)) (written.factors.entries i k d within h))
          ∙ ap (λ (b : BatchData). gf_sum (degree_of b) (λ k. gf_mul (local_factor b coefs k) (x k))) is
          ∙ factors-local_value session number coefs x
          (subst (λ (b : BatchData). (k : ℕ) → k < degree_of b → x k < 256) is bytes);
    }

-- ---- held batches one after another

pub HaveLocals-none : (session : SessionData) (batches : List HeldBatch) (locals : List Local) → locals ≡ [] → HaveLocals session batches 0 locals
HaveLocals-none session batches locals none = record {
  size = ap (λ (ls : List Local). length ls) none;
  each = λ i d h. absurd (omega arith);
}

-- one more
pub HaveLocals-more : (session : SessionData) (batches : List HeldBatch) (i : ℕ) (local : Local) (before after : List Local)
    → HaveLocals session batches i before → IsLocalAt session batches i local → after ≡ before ++ local ∷ [] → HaveLocals session batches (i + 1) after
HaveLocals-more session batches i local before after have is pushed =
    let more : List Local = before ++ local ∷ [] in
    record {
      size = ap (λ (ls : List Local). length ls) pushed ∙ length_push before local ∙ ap (λ (n : ℕ). n + 1) have.size;
      each = λ k d h. elim (cases_eq k i) [
        | inl e ↦
            let here : local ≡ get_or after k d =
            sym (ap (λ (ls : List Local). get_or ls k d) pushed ∙ get_or_push before local d k (have.size ∙ sym e)) in
            subst (λ (n : ℕ). IsLocalAt session batches n (get_or after k d)) (sym e) (subst (IsLocalAt session batches i) here is)
        | inr other ↦
            let earlier : k < i = omega arith in
            let here : get_or before k d ≡ get_or after k d =
            sym (ap (λ (ls : List Local). get_or ls k d) pushed ∙ get_or_append_left before (local ∷ []) d k (omega (arith, have.size))) in
            subst (IsLocalAt session batches k) here (have.each k d earlier)
      ];
    }

pub AreLocals-all : (session : SessionData) (batches : List HeldBatch) (count : ℕ) (locals : List Local) → count ≡ length batches
    → HaveLocals session batches count locals → AreLocals session batches locals
AreLocals-all session batches count locals all have = record {
  size = have.size ∙ all;
  each = λ i d h. have.each i d (omega (arith, all));
}

-- the rows before the next batch
pub row_count-more : (batches : List HeldBatch) (i : ℕ) → i < length batches
    → row_count (take (i + 1) batches) ≡ row_count (take i batches) + length (batch_at batches i).kept
row_count-more batches i within =
    ap (sum_by (λ (batch : HeldBatch). length batch.kept)) (take_more batches i no_batch within)
    ∙ sum_by_push (λ (batch : HeldBatch). length batch.kept) (take i batches) (batch_at batches i)

-- they are at most all rows
pub row_count-room : (batches : List HeldBatch) (i : ℕ) → i < length batches
    → row_count (take i batches) + length (batch_at batches i).kept ≤ row_count batches
row_count-room batches i within =
    omega (arith, row_count-more batches i within, sum_by-take-le (λ (batch : HeldBatch). length batch.kept) batches (i + 1))

-- ---- what a local is to the test whether it fixes

pub IsLocal-of : (session : SessionData) (number first : ℕ) (kept : List Packet) (local : Local)
    → IsLocalOf session number first kept local → IsLocal (symbols_of session) local
IsLocal-of session number first kept local is = record {
  batch = is.is_batch;
  below = subst (λ (b : BatchData). (k : ℕ) → k < degree_of b → contributor_of b k < symbols_of session) (sym is.batch_is)
      (contributor_of-lt session number);
  matrix = is.matrix;
  cols = is.cols;
}

-- each of the locals is one
pub IsLocal-at : (session : SessionData) (batches : List HeldBatch) (locals : List Local) (i : ℕ) (d : Local)
    → AreLocals session batches locals → i < length batches → IsLocal (symbols_of session) (get_or locals i d)
IsLocal-at session batches locals i d are within =
    IsLocal-of session (batch_at batches i).number (row_count (take i batches)) (batch_at batches i).kept (get_or locals i d) (are.each i d within)
