-- A plan that was run on all stripes was run on every column.
use Rattle.std.proofs.Common.{ℕ, ◌≡◌, ◌<◌, ◌≤◌, ◌+◌, ◌*◌, ◌/◌, ◌%◌, ◌∙◌, List, length, sym, ap, subst, refl, arith}
use Rattle.std.specs.Prelude.{All}
use Rattle.std.specs.Fork.{slice_chunk}
use Rattle.std.proofs.Math.Nat.{mod-lt}
use Rattle.std.proofs.lemmas.List.{nil_from_length}
use Rattle.gf_core.specs.Rows.{column_of}
use Rattle.gf_rows.specs.declared.operation.Op.{Op}
use Rattle.gf_rows.specs.Matrix.{Grid, rows_of}
use Rattle.gf_rows.specs.Operation.{FitsRows}
use Rattle.gf_rows.specs.Plan.{plan_on_column}
use Rattle.gf_rows.proofs.BufferLemmas.{length-part, length-rows_of, row_within, widths_of_rows}
use Rattle.gf_core.proofs.RowLemmas.{length-column_of}
use Rattle.gf_rows.proofs.PlanLemmas.{column_of-plan_on_rows, length-plan_on_column}
use Rattle.bats_stripes.specs.Layout.{striped_rows}
use Rattle.bats_stripes.specs.Columns.{IsReplayed}
use Rattle.bats_stripes.specs.steps.Stripes.{AreRun, IsStriped}
use Rattle.bats_stripes.proofs.StripedRows.{length-striped_rows, widths_of_striped, column_striped, stripe_within, striped_grid}

module _ (plan : List Op) (rows cols width stride stripes : ℕ) (before after : List ℕ) (is : IsStriped rows cols width stride stripes (length before))
    (some : 0 < rows) (fits : All (FitsRows rows) plan) (run : AreRun plan rows stride before after) where
  -- a column
  pub column_run : (c : ℕ) → c < cols
      → column_of (striped_rows rows cols width stride after) c ≡ plan_on_column plan (column_of (striped_rows rows cols width stride before) c)
  column_run c p =
      column_striped rows cols width stride c after is.some is.fits p ∙
      (ap (λ rs. column_of rs (c % width)) (run.each (c / width) begins) ∙
      (column_of-plan_on_rows plan (rows_of rows stride chunk) stride (c % width)
      (subst (λ n. All (FitsRows n) plan) (sym (length-rows_of rows stride chunk)) fits)
      (widths_of_rows rows stride chunk (length-part before (c / width * (rows * stride)) (rows * stride) ends)) (omega (arith, mod-lt c is.some, is.fits)) ∙
      ap (plan_on_column plan) (sym (column_striped rows cols width stride c before is.some is.fits p))))
    where
      chunk : List ℕ
      chunk = slice_chunk before (rows * stride) (c / width)

      ends : c / width * (rows * stride) + rows * stride ≤ length before
      ends = row_within stripes (rows * stride) (c / width) (length before) is.bytes (stripe_within cols width stripes c is.some is.covers p)

      byte : rows * stride ≡ rows * stride → 0 < rows * stride
      byte same = omega (arith, row_within rows stride 0 (rows * stride) refl some, is.some, is.fits)

      begins : c / width * (rows * stride) < length before
      begins = omega (arith, ends, byte refl)

-- the payload
pub replayed_run : (plan : List Op) (rows cols width stride stripes : ℕ) (before after : List ℕ) (old : Grid) → striped_grid rows cols width stride before ≡ old
    → IsStriped rows cols width stride stripes (length before) → 0 < rows → All (FitsRows rows) plan → AreRun plan rows stride before after
    → IsReplayed plan old (striped_grid rows cols width stride after)
replayed_run plan rows cols width stride stripes before after old view is some fits run =
    subst (λ (g : Grid). IsReplayed plan g (striped_grid rows cols width stride after)) view (record {
      cols = refl;
      count = length-striped_rows rows cols width stride after ∙ sym (length-striped_rows rows cols width stride before);
      widths = widths_of_striped rows cols width stride after;
      columns = column_run plan rows cols width stride stripes before after is some fits run;
    })

-- without rows there is nothing to do
pub replayed_none : (plan : List Op) (cols width stride : ℕ) (bytes : List ℕ) (old : Grid) → striped_grid 0 cols width stride bytes ≡ old → IsReplayed plan old old
replayed_none plan cols width stride bytes old view =
    subst (λ (g : Grid). IsReplayed plan g g) view (record { cols = refl; count = refl; widths = widths_of_striped 0 cols width stride bytes; columns = λ c p. column_none c })
  where
    empty_stays : (column : List ℕ) → length column ≡ 0 → plan_on_column plan column ≡ column
    empty_stays column size = nil_from_length (plan_on_column plan column) (length-plan_on_column plan column ∙ size) ∙ sym (nil_from_length column size)

    column_none : (c : ℕ) → column_of (striped_rows 0 cols width stride bytes) c ≡ plan_on_column plan (column_of (striped_rows 0 cols width stride bytes) c)
    column_none c =
        let rows = striped_rows 0 cols width stride bytes in
        sym (empty_stays (column_of rows c) (length-column_of rows c ∙ length-striped_rows 0 cols width stride bytes))
