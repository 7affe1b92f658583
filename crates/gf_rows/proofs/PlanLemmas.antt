-- What a plan does to a column: it keeps the length and bytes, is linear, and goes on where another ends. On whole
-- rows a plan does to each column what it does to a column.
use Rattle.std.proofs.Common.{ℕ, zero, suc, ◌≡◌, ◌<◌, ◌∙◌, List, [], ◌∷◌, ◌++◌, length, get_or, set, replicate, sym, ap, refl, arith, length-set}
use Rattle.std.specs.Prelude.{All}
use Rattle.std.proofs.lemmas.List.{set-get_or}
use Rattle.std.proofs.lemmas.List.Elements.{All-head, All-tail, All-set}
use Rattle.std.proofs.lemmas.Grind.{fold-append}
use Rattle.gf_core.specs.Field.{gf_add, gf_mul}
use Rattle.gf_core.proofs.AddLemmas.{gf_add-lt, gf_add-zero, gf_add_add_comm}
use Rattle.gf_core.proofs.ProductLemmas.{gf_mul-lt, gf_mul-zero, gf_mul-gf_add, gf_mul_left_comm}
use Rattle.gf_rows.specs.declared.operation.Op.{Op}
use Rattle.gf_rows.specs.declared.operation.Op.TheVariants.{AddScaled, Scale}
use Rattle.gf_core.specs.Bytes.{AreBytes}
use Rattle.gf_core.specs.Rows.{row_sum, scaled_row, add_scaled_row, column_of}
use Rattle.gf_rows.specs.Operation.{HasByteFactor, FitsRows, op_on_column, op_on_rows}
use Rattle.gf_rows.specs.Plan.{plan_on_column, plan_on_rows}
use Rattle.gf_core.proofs.RowLemmas.{byte_at, row_sum-set, get_or-row_sum_even, scaled_row-set, get_or-scaled_row, get_or-add_scaled_row, length-add_scaled_row, length-scaled_row, get_or-column_of, column_of-set}

-- ---- one operation

pub length-op_on_column : (column : List ℕ) (op : Op) → length (op_on_column column op) ≡ length column
length-op_on_column column (AddScaled dst src factor) = length-set column dst _
length-op_on_column column (Scale row factor) = length-set column row _

pub op_on_column-lt : (column : List ℕ) (op : Op) → AreBytes column → AreBytes (op_on_column column op)
op_on_column-lt column (AddScaled dst src factor) p =
    All-set (λ byte. byte < 256) column dst _
    (gf_add-lt (get_or column dst 0) (gf_mul factor (get_or column src 0)) (byte_at column dst p) (gf_mul-lt factor (get_or column src 0) (byte_at column src p))) p
op_on_column-lt column (Scale row factor) p =
    All-set (λ byte. byte < 256) column row _ (gf_mul-lt factor (get_or column row 0) (byte_at column row p)) p

pub op_on_column-row_sum : (a b : List ℕ) (op : Op) → length a ≡ length b → op_on_column (row_sum a b) op ≡ row_sum (op_on_column a op) (op_on_column b op)
op_on_column-row_sum a b (AddScaled dst src factor) e =
    ap (set (row_sum a b) dst) value ∙ sym (row_sum-set a b dst _ _ e)
  where
    value : gf_add (get_or (row_sum a b) dst 0) (gf_mul factor (get_or (row_sum a b) src 0)) ≡
        gf_add (gf_add (get_or a dst 0) (gf_mul factor (get_or a src 0))) (gf_add (get_or b dst 0) (gf_mul factor (get_or b src 0)))
    value =
        ap (λ x. gf_add x (gf_mul factor (get_or (row_sum a b) src 0))) (get_or-row_sum_even a b dst e) ∙
        (ap (λ x. gf_add (gf_add (get_or a dst 0) (get_or b dst 0)) (gf_mul factor x)) (get_or-row_sum_even a b src e) ∙
        (ap (gf_add (gf_add (get_or a dst 0) (get_or b dst 0))) (gf_mul-gf_add factor (get_or a src 0) (get_or b src 0)) ∙
        gf_add_add_comm (get_or a dst 0) (get_or b dst 0) (gf_mul factor (get_or a src 0)) (gf_mul factor (get_or b src 0))))
op_on_column-row_sum a b (Scale row factor) e =
    ap (λ x. set (row_sum a b) row (gf_mul factor x)) (get_or-row_sum_even a b row e) ∙
    (ap (set (row_sum a b) row) (gf_mul-gf_add factor (get_or a row 0) (get_or b row 0)) ∙ sym (row_sum-set a b row _ _ e))

pub op_on_column-scaled_row : (c : ℕ) (column : List ℕ) (op : Op) → c < 256 → AreBytes column → HasByteFactor op
    → op_on_column (scaled_row c column) op ≡ scaled_row c (op_on_column column op)
op_on_column-scaled_row c column (AddScaled dst src factor) p bytes q =
    ap (set (scaled_row c column) dst) value ∙ sym (scaled_row-set c column dst _)
  where
    value : gf_add (get_or (scaled_row c column) dst 0) (gf_mul factor (get_or (scaled_row c column) src 0)) ≡
        gf_mul c (gf_add (get_or column dst 0) (gf_mul factor (get_or column src 0)))
    value =
        ap (λ x. gf_add x (gf_mul factor (get_or (scaled_row c column) src 0))) (get_or-scaled_row c column dst) ∙
        (ap (λ x. gf_add (gf_mul c (get_or column dst 0)) (gf_mul factor x)) (get_or-scaled_row c column src) ∙
        (ap (gf_add (gf_mul c (get_or column dst 0))) (gf_mul_left_comm factor c (get_or column src 0) q p (byte_at column src bytes)) ∙
        sym (gf_mul-gf_add c (get_or column dst 0) (gf_mul factor (get_or column src 0)))))
op_on_column-scaled_row c column (Scale row factor) p bytes q =
    ap (λ x. set (scaled_row c column) row (gf_mul factor x)) (get_or-scaled_row c column row) ∙
    (ap (set (scaled_row c column) row) (gf_mul_left_comm factor c (get_or column row 0) q p (byte_at column row bytes)) ∙
    sym (scaled_row-set c column row _))

abbrev pub zeros : ℕ → List ℕ
zeros n = replicate n 0

pub entry_of_zeros : (n k : ℕ) → get_or (zeros n) k 0 ≡ 0
entry_of_zeros zero k = refl
entry_of_zeros (suc n) zero = refl
entry_of_zeros (suc n) (suc k) = entry_of_zeros n k

set_of_zeros : (n k x : ℕ) → x ≡ 0 → set (zeros n) k x ≡ zeros n
set_of_zeros n k x e = ap (set (zeros n) k) (e ∙ sym (entry_of_zeros n k)) ∙ set-get_or (zeros n) k 0

product_of_zeros : (factor n k : ℕ) → gf_mul factor (get_or (zeros n) k 0) ≡ 0
product_of_zeros factor n k = ap (gf_mul factor) (entry_of_zeros n k) ∙ gf_mul-zero factor

pub op_on_column-zeros : (n : ℕ) (op : Op) → op_on_column (replicate n 0) op ≡ replicate n 0
op_on_column-zeros n (AddScaled dst src factor) =
    set_of_zeros n dst _ (ap (gf_add (get_or (zeros n) dst 0)) (product_of_zeros factor n src) ∙ (gf_add-zero (get_or (zeros n) dst 0) ∙ entry_of_zeros n dst))
op_on_column-zeros n (Scale row factor) = set_of_zeros n row _ (product_of_zeros factor n row)

-- ---- a plan

pub plan_on_column-nil : (column : List ℕ) → plan_on_column [] column ≡ column
unfolding plan_on_column
plan_on_column-nil column = refl

pub plan_on_column-cons : (op : Op) (ops : List Op) (column : List ℕ) → plan_on_column (op ∷ ops) column ≡ plan_on_column ops (op_on_column column op)
unfolding plan_on_column
plan_on_column-cons op ops column = refl

-- a plan that goes on with another
pub plan_on_column-append : (ops more : List Op) (column : List ℕ) → plan_on_column (ops ++ more) column ≡ plan_on_column more (plan_on_column ops column)
unfolding plan_on_column
plan_on_column-append ops more column = fold-append op_on_column column ops more

-- one more operation
pub plan_on_column-push : (ops : List Op) (op : Op) (column : List ℕ) → plan_on_column (ops ++ op ∷ []) column ≡ op_on_column (plan_on_column ops column) op
unfolding plan_on_column
plan_on_column-push ops op column = fold-append op_on_column column ops (op ∷ [])

pub length-plan_on_column : (ops : List Op) (column : List ℕ) → length (plan_on_column ops column) ≡ length column
unfolding plan_on_column
length-plan_on_column [] column = refl
length-plan_on_column (op ∷ ops) column = length-plan_on_column ops (op_on_column column op) ∙ length-op_on_column column op

pub plan_on_column-lt : (ops : List Op) (column : List ℕ) → AreBytes column → AreBytes (plan_on_column ops column)
unfolding plan_on_column
plan_on_column-lt [] column p = p
plan_on_column-lt (op ∷ ops) column p = plan_on_column-lt ops (op_on_column column op) (op_on_column-lt column op p)

-- the plan of a sum of columns is the sum
pub plan_on_column-row_sum : (ops : List Op) (a b : List ℕ) → length a ≡ length b → plan_on_column ops (row_sum a b) ≡ row_sum (plan_on_column ops a) (plan_on_column ops b)
unfolding plan_on_column
plan_on_column-row_sum [] a b e = refl
plan_on_column-row_sum (op ∷ ops) a b e =
    ap (plan_on_column ops) (op_on_column-row_sum a b op e) ∙
    plan_on_column-row_sum ops (op_on_column a op) (op_on_column b op) (length-op_on_column a op ∙ (e ∙ sym (length-op_on_column b op)))

-- the plan of a multiple of a column is the multiple
pub plan_on_column-scaled_row : (ops : List Op) (c : ℕ) (column : List ℕ) → All HasByteFactor ops → c < 256 → AreBytes column
    → plan_on_column ops (scaled_row c column) ≡ scaled_row c (plan_on_column ops column)
unfolding plan_on_column
plan_on_column-scaled_row [] c column h p bytes = refl
plan_on_column-scaled_row (op ∷ ops) c column h p bytes =
    ap (plan_on_column ops) (op_on_column-scaled_row c column op p bytes (All-head HasByteFactor op ops h)) ∙
    plan_on_column-scaled_row ops c (op_on_column column op) (All-tail HasByteFactor op ops h) p (op_on_column-lt column op bytes)

-- the plan of a column of zeros
pub plan_on_column-zeros : (ops : List Op) (n : ℕ) → plan_on_column ops (replicate n 0) ≡ replicate n 0
unfolding plan_on_column
plan_on_column-zeros [] n = refl
plan_on_column-zeros (op ∷ ops) n = ap (plan_on_column ops) (op_on_column-zeros n op) ∙ plan_on_column-zeros ops n

-- ---- whole rows

pub length-op_on_rows : (rows : List (List ℕ)) (op : Op) → length (op_on_rows rows op) ≡ length rows
length-op_on_rows rows (AddScaled dst src factor) = length-set rows dst _
length-op_on_rows rows (Scale row factor) = length-set rows row _

-- rows of one length keep it
pub op_on_rows-widths : (rows : List (List ℕ)) (width : ℕ) (op : Op) → FitsRows (length rows) op → All (λ row. length row ≡ width) rows → All (λ row. length row ≡ width) (op_on_rows rows op)
op_on_rows-widths rows width (AddScaled dst src factor) fits widths =
    All-set (λ row. length row ≡ width) rows dst _ (length-add_scaled_row (get_or rows dst []) factor (get_or rows src []) ∙ widths dst [] fits.0) widths
op_on_rows-widths rows width (Scale row factor) fits widths =
    All-set (λ row. length row ≡ width) rows row _ (length-scaled_row factor (get_or rows row []) ∙ widths row [] fits) widths

-- the operation on whole rows is the operation on each column
pub column_of-op_on_rows : (rows : List (List ℕ)) (width j : ℕ) (op : Op) → FitsRows (length rows) op → All (λ row. length row ≡ width) rows → j < width
    → column_of (op_on_rows rows op) j ≡ op_on_column (column_of rows j) op
column_of-op_on_rows rows width j (AddScaled dst src factor) fits widths within =
    column_of-set rows j dst _ ∙ ap (set (column_of rows j) dst) value
  where
    value : get_or (add_scaled_row (get_or rows dst []) factor (get_or rows src [])) j 0 ≡ gf_add (get_or (column_of rows j) dst 0) (gf_mul factor (get_or (column_of rows j) src 0))
    value =
        get_or-add_scaled_row (get_or rows dst []) factor (get_or rows src []) j (omega (arith, widths dst [] fits.0)) ∙
        (ap (λ x. gf_add x (gf_mul factor (get_or (get_or rows src []) j 0))) (sym (get_or-column_of rows j dst)) ∙
        ap (λ x. gf_add (get_or (column_of rows j) dst 0) (gf_mul factor x)) (sym (get_or-column_of rows j src)))
column_of-op_on_rows rows width j (Scale row factor) fits widths within =
    column_of-set rows j row _ ∙
    ap (set (column_of rows j) row) (get_or-scaled_row factor (get_or rows row []) j ∙ ap (gf_mul factor) (sym (get_or-column_of rows j row)))

pub plan_on_rows-push : (ops : List Op) (op : Op) (rows : List (List ℕ)) → plan_on_rows (ops ++ op ∷ []) rows ≡ op_on_rows (plan_on_rows ops rows) op
unfolding plan_on_rows
plan_on_rows-push ops op rows = fold-append op_on_rows rows ops (op ∷ [])

pub length-plan_on_rows : (ops : List Op) (rows : List (List ℕ)) → length (plan_on_rows ops rows) ≡ length rows
unfolding plan_on_rows
length-plan_on_rows [] rows = refl
length-plan_on_rows (op ∷ ops) rows = length-plan_on_rows ops (op_on_rows rows op) ∙ length-op_on_rows rows op

pub plan_on_rows-widths : (ops : List Op) (rows : List (List ℕ)) (width : ℕ) → All (FitsRows (length rows)) ops → All (λ row. length row ≡ width) rows → All (λ row. length row ≡ width) (plan_on_rows ops rows)
unfolding plan_on_rows
plan_on_rows-widths [] rows width fits widths = widths
plan_on_rows-widths (op ∷ ops) rows width fits widths =
    plan_on_rows-widths ops (op_on_rows rows op) width (rw (length-op_on_rows rows op) (All-tail (FitsRows (length rows)) op ops fits))
    (op_on_rows-widths rows width op (All-head (FitsRows (length rows)) op ops fits) widths)

-- the plan on whole rows is the plan on each column
pub column_of-plan_on_rows : (ops : List Op) (rows : List (List ℕ)) (width j : ℕ) → All (FitsRows (length rows)) ops → All (λ row. length row ≡ width) rows → j < width
    → column_of (plan_on_rows ops rows) j ≡ plan_on_column ops (column_of rows j)
unfolding plan_on_rows plan_on_column
column_of-plan_on_rows [] rows width j fits widths within = refl
column_of-plan_on_rows (op ∷ ops) rows width j fits widths within =
    let first = All-head (FitsRows (length rows)) op ops fits in
    column_of-plan_on_rows ops (op_on_rows rows op) width j (rw (length-op_on_rows rows op) (All-tail (FitsRows (length rows)) op ops fits)) (op_on_rows-widths rows width op first widths) within ∙
    ap (plan_on_column ops) (column_of-op_on_rows rows width j op first widths within)
