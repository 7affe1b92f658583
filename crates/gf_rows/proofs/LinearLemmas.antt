-- Operations on rows do to the list of a linear function's values what they do to a column.
use Rattle.std.proofs.Common.{ℕ, ◌≡◌, ◌∙◌, List, [], ◌∷◌, length, get_or, set, sym, ap, refl}
use Rattle.std.specs.Prelude.{All, map}
use Rattle.std.proofs.lemmas.List.{map-set, get_or-map}
use Rattle.std.proofs.lemmas.List.Elements.{All-head, All-tail, All-set}
use Rattle.gf_core.specs.Field.{gf_add, gf_mul}
use Rattle.gf_rows.specs.declared.operation.Op.{Op}
use Rattle.gf_rows.specs.declared.operation.Op.TheVariants.{AddScaled, Scale}
use Rattle.gf_core.specs.Bytes.{AreBytes}
use Rattle.gf_core.specs.Rows.{scaled_row, add_scaled_row}
use Rattle.gf_rows.specs.Operation.{FitsRows, op_on_column, op_on_rows}
use Rattle.gf_rows.specs.Plan.{plan_on_column, plan_on_rows}
use Rattle.gf_core.proofs.RowLemmas.{add_scaled_row-lt, scaled_row-lt}
use Rattle.gf_core.proofs.LinearRows.{AreRows, IsLinear}
use Rattle.gf_rows.proofs.PlanLemmas.{length-op_on_rows, op_on_rows-widths}

-- rows of bytes stay rows of bytes
pub AreRows-op_on_rows : (width : ℕ) (rows : List (List ℕ)) (op : Op) → FitsRows (length rows) op → AreRows width rows → AreRows width (op_on_rows rows op)
AreRows-op_on_rows width rows (AddScaled dst src factor) fits are = record {
  widths = op_on_rows-widths rows width (AddScaled dst src factor) fits are.widths;
  bytes = All-set AreBytes rows dst _ (add_scaled_row-lt (get_or rows dst []) factor (get_or rows src []) (are.bytes dst [] fits.0) (are.bytes src [] fits.1)) are.bytes;
}
AreRows-op_on_rows width rows (Scale row factor) fits are = record {
  widths = op_on_rows-widths rows width (Scale row factor) fits are.widths;
  bytes = All-set AreBytes rows row _ (scaled_row-lt factor (get_or rows row []) (are.bytes row [] fits)) are.bytes;
}

-- the operation on whole rows is the operation on the values of a linear function
pub map-op_on_rows : (h : List ℕ → ℕ) (width : ℕ) (rows : List (List ℕ)) (op : Op) → IsLinear width h → FitsRows (length rows) op → AreRows width rows
    → map h (op_on_rows rows op) ≡ op_on_column (map h rows) op
map-op_on_rows h width rows (AddScaled dst src factor) linear fits are =
    map-set h rows dst (add_scaled_row (get_or rows dst []) factor (get_or rows src [])) ∙ ap (set (map h rows) dst) value
  where
    value : h (add_scaled_row (get_or rows dst []) factor (get_or rows src [])) ≡ gf_add (get_or (map h rows) dst 0) (gf_mul factor (get_or (map h rows) src 0))
    value =
        linear.of_sum (get_or rows dst []) factor (get_or rows src []) (are.widths dst [] fits.0) (are.widths src [] fits.1) (are.bytes dst [] fits.0) (are.bytes src [] fits.1) ∙
        (ap (λ x. gf_add x (gf_mul factor (h (get_or rows src [])))) (sym (get_or-map h rows dst [] 0 fits.0)) ∙
        ap (λ x. gf_add (get_or (map h rows) dst 0) (gf_mul factor x)) (sym (get_or-map h rows src [] 0 fits.1)))
map-op_on_rows h width rows (Scale row factor) linear fits are =
    map-set h rows row (scaled_row factor (get_or rows row [])) ∙
    ap (set (map h rows) row) (linear.of_multiple factor (get_or rows row []) (are.widths row [] fits) (are.bytes row [] fits) ∙ ap (gf_mul factor) (sym (get_or-map h rows row [] 0 fits)))

-- the plan on whole rows is the plan on the values of a linear function
pub map-plan_on_rows : (h : List ℕ → ℕ) (width : ℕ) (ops : List Op) (rows : List (List ℕ)) → IsLinear width h → All (FitsRows (length rows)) ops → AreRows width rows
    → map h (plan_on_rows ops rows) ≡ plan_on_column ops (map h rows)
unfolding plan_on_rows plan_on_column
map-plan_on_rows h width [] rows linear fits are = refl
map-plan_on_rows h width (op ∷ ops) rows linear fits are =
    let first = All-head (FitsRows (length rows)) op ops fits in
    map-plan_on_rows h width ops (op_on_rows rows op) linear (rw (length-op_on_rows rows op) (All-tail (FitsRows (length rows)) op ops fits)) (AreRows-op_on_rows width rows op first are) ∙
    ap (plan_on_column ops) (map-op_on_rows h width rows op linear first are)

pub AreRows-plan_on_rows : (width : ℕ) (ops : List Op) (rows : List (List ℕ)) → All (FitsRows (length rows)) ops → AreRows width rows → AreRows width (plan_on_rows ops rows)
unfolding plan_on_rows
AreRows-plan_on_rows width [] rows fits are = are
AreRows-plan_on_rows width (op ∷ ops) rows fits are =
    AreRows-plan_on_rows width ops (op_on_rows rows op) (rw (length-op_on_rows rows op) (All-tail (FitsRows (length rows)) op ops fits))
    (AreRows-op_on_rows width rows op (All-head (FitsRows (length rows)) op ops fits) are)
