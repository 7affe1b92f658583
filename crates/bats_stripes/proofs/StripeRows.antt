-- One operation on the rows of a stripe: from what the code leaves in the buffer to what the operation makes of the rows.
use Rattle.std.proofs.Common.{ℕ, ◌≡◌, ◌<◌, ◌≤◌, ◌+◌, ◌-◌, ◌*◌, ◌∙◌, List, [], length, get_or, set, take, drop, sym, ap, refl, arith}
use Rattle.std.specs.Prelude.{slice_range}
use borrow.Rule.Slice.PartMut.{put_mid}
use Rattle.gf_core.specs.Rows.{add_scaled_row, scaled_row}
use Rattle.gf_core.proofs.RowLemmas.{length-add_scaled_row, length-scaled_row}
use Rattle.gf_rows.specs.declared.operation.Op.TheVariants.{AddScaled, Scale}
use Rattle.gf_rows.specs.Matrix.{rows_of, with_part}
use Rattle.gf_rows.specs.Operation.{op_on_rows}
use Rattle.gf_rows.proofs.BufferLemmas.{length-part, row_within, length-with_part, rows_of-with_part, get_or-rows_of, add_scaled_in_slice, scaled_in_slice}

module _ (rows stride : ℕ) (bytes : List ℕ) (size : length bytes ≡ rows * stride) where
  abbrev row : ℕ → List ℕ
  row r = take stride (drop (r * stride) bytes)

  within : (r : ℕ) → r < rows → r * stride + stride ≤ length bytes
  within r h = row_within rows stride r (length bytes) size h

  width_of_sum : (dst c src : ℕ) → dst < rows → length (add_scaled_row (row dst) c (row src)) ≡ stride
  width_of_sum dst c src h = length-add_scaled_row (row dst) c (row src) ∙ length-part bytes (dst * stride) stride (within dst h)

  width_of_scaled : (r c : ℕ) → r < rows → length (scaled_row c (row r)) ≡ stride
  width_of_scaled r c h = length-scaled_row c (row r) ∙ length-part bytes (r * stride) stride (within r h)

  module _ (ws : List ℕ) (dst c src : ℕ) (here : dst < rows) (there : src < rows)
      (is : ws ≡ with_part bytes (dst * stride) (add_scaled_row (slice_range bytes (dst * stride) (dst * stride + stride)) c (slice_range bytes (src * stride) (src * stride + stride)))) where
    part_is : ws ≡ with_part bytes (dst * stride) (add_scaled_row (row dst) c (row src))
    part_is = add_scaled_in_slice bytes bytes ws stride (dst * stride) c (src * stride) refl is

    pub size_added : length ws ≡ rows * stride
    size_added =
        ap length part_is ∙ (length-with_part bytes (dst * stride) (add_scaled_row (row dst) c (row src)) (omega (arith, width_of_sum dst c src here, within dst here)) ∙ size)

    pub rows_added : rows_of rows stride ws ≡ op_on_rows (rows_of rows stride bytes) (AddScaled dst src c)
    rows_added =
        ap (rows_of rows stride) part_is ∙
        (rows_of-with_part rows stride bytes dst (add_scaled_row (row dst) c (row src)) size here (width_of_sum dst c src here) ∙
        (ap (λ r. set (rows_of rows stride bytes) dst (add_scaled_row r c (row src))) (sym (get_or-rows_of rows stride bytes dst here)) ∙
        ap (λ r. set (rows_of rows stride bytes) dst (add_scaled_row (get_or (rows_of rows stride bytes) dst []) c r)) (sym (get_or-rows_of rows stride bytes src there))))

  module _ (new : List ℕ) (r c : ℕ) (here : r < rows) (is : new ≡ scaled_row c (take (r * stride + stride - r * stride) (drop (r * stride) bytes))) where
    scaled_part : put_mid (r * stride) (r * stride + stride - r * stride) bytes new ≡ with_part bytes (r * stride) (scaled_row c (row r))
    scaled_part = scaled_in_slice bytes bytes new stride (r * stride) c refl (within r here) is

    pub size_scaled : length (put_mid (r * stride) (r * stride + stride - r * stride) bytes new) ≡ rows * stride
    size_scaled =
        ap length scaled_part ∙ (length-with_part bytes (r * stride) (scaled_row c (row r)) (omega (arith, width_of_scaled r c here, within r here)) ∙ size)

    pub rows_scaled : rows_of rows stride (put_mid (r * stride) (r * stride + stride - r * stride) bytes new) ≡ op_on_rows (rows_of rows stride bytes) (Scale r c)
    rows_scaled =
        ap (rows_of rows stride) scaled_part ∙
        (rows_of-with_part rows stride bytes r (scaled_row c (row r)) size here (width_of_scaled r c here) ∙
        ap (λ x. set (rows_of rows stride bytes) r (scaled_row c x)) (sym (get_or-rows_of rows stride bytes r here)))
