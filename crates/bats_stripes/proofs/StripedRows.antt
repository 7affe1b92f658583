-- Payload rows in stripes: their lengths and entries, where a byte lies, and the columns of a stripe.
use Rattle.std.proofs.Common.{ℕ, ◌≡◌, ◌<◌, ◌≤◌, ◌+◌, ◌*◌, ◌/◌, ◌%◌, ◌∙◌, List, [], length, get_or, drop, replicate, sym, ap, refl, subst, arith}
use Rattle.std.proofs.Math.Nat.{mul_assoc, mod-lt, div-lt_iff_lt-mul}
use Rattle.std.proofs.lemmas.List.{ext_get_or, length-replicate, get_or-replicate, get_or-take, get_or-drop}
use Rattle.std.specs.Prelude.{All}
use Rattle.std.proofs.lemmas.List.Elements.{All-from_get_or}
use Rattle.std.proofs.lemmas.List.FromFn.{length-map-range_with_len, get_or-map-range_with_len}
use Rattle.std.specs.Fork.{slice_chunk}
use Rattle.gf_core.specs.Rows.{column_of}
use Rattle.gf_core.proofs.RowLemmas.{length-column_of, get_or-column_of}
use Rattle.gf_rows.specs.Matrix.{Grid, matrix_entry, rows_of}
use Rattle.gf_rows.proofs.BufferLemmas.{length-rows_of, get_or-get_or-rows_of, row_within}
use Rattle.gf_rows.proofs.PlanLemmas.{zeros, entry_of_zeros}
use Rattle.bats_stripes.specs.Layout.{byte_place, striped_row, striped_rows}

module _ (rows cols width stride : ℕ) (bytes : List ℕ) where
  pub length-striped_rows : length (striped_rows rows cols width stride bytes) ≡ rows
  unfolding striped_rows
  length-striped_rows = length-map-range_with_len (striped_row rows cols width stride bytes) 0 rows

  pub length-striped_row : (r : ℕ) → length (striped_row rows cols width stride bytes r) ≡ cols
  unfolding striped_row
  length-striped_row r = length-map-range_with_len (λ c. get_or bytes (byte_place rows width stride r c) 0) 0 cols

  pub get_or-striped_rows : (r : ℕ) → r < rows → get_or (striped_rows rows cols width stride bytes) r [] ≡ striped_row rows cols width stride bytes r
  unfolding striped_rows
  get_or-striped_rows r h = get_or-map-range_with_len (striped_row rows cols width stride bytes) 0 rows r r [] h (omega arith)

  pub get_or-striped_row : (r c : ℕ) → c < cols → get_or (striped_row rows cols width stride bytes r) c 0 ≡ get_or bytes (byte_place rows width stride r c) 0
  unfolding striped_row
  get_or-striped_row r c h = get_or-map-range_with_len (λ k. get_or bytes (byte_place rows width stride r k) 0) 0 cols c c 0 h (omega arith)

  pub widths_of_striped : All (λ row. length row ≡ cols) (striped_rows rows cols width stride bytes)
  widths_of_striped =
      All-from_get_or (λ row. length row ≡ cols) (striped_rows rows cols width stride bytes) []
      (λ r h. ap length (get_or-striped_rows r (subst (λ n. r < n) length-striped_rows h)) ∙ length-striped_row r)

  -- an entry
  pub entry_of_striped : (r c : ℕ) → r < rows → c < cols → get_or (get_or (striped_rows rows cols width stride bytes) r []) c 0 ≡ get_or bytes (byte_place rows width stride r c) 0
  entry_of_striped r c h p = ap (λ row. get_or row c 0) (get_or-striped_rows r h) ∙ get_or-striped_row r c p

-- a place, as one in a stripe
pub place_in_stripe : (k rows stride r j : ℕ) → (k * rows + r) * stride + j ≡ k * (rows * stride) + (r * stride + j)
place_in_stripe k rows stride r j = omega (arith, mul_assoc k rows stride)

-- the stripe of a column
pub stripe_within : (cols width stripes c : ℕ) → 0 < width → cols ≤ stripes * width → c < cols → c / width < stripes
stripe_within cols width stripes c some covers h = (div-lt_iff_lt-mul some).1 (omega (arith, covers))

-- a place in a stripe of a byte of a row
pub within_stripe : (rows stride r j : ℕ) → r < rows → j < stride → r * stride + j < rows * stride
within_stripe rows stride r j h p = omega (arith, row_within rows stride r (rows * stride) refl h)

-- a place in the buffer
pub place_within : (rows cols width stride stripes r c : ℕ) → 0 < width → width ≤ stride → cols ≤ stripes * width → r < rows → c < cols
    → byte_place rows width stride r c < stripes * (rows * stride)
place_within rows cols width stride stripes r c some fits covers h p =
    let k : ℕ = c / width in
    let column : c % width < width = mod-lt c some in
    let stripe = row_within stripes (rows * stride) k (stripes * (rows * stride)) refl (stripe_within cols width stripes c some covers p) in
    let row = within_stripe rows stride r (c % width) h (omega (arith, column)) in
    omega (arith, stripe, row, place_in_stripe k rows stride r (c % width))

-- a column of the payload is a column of its stripe
pub column_striped : (rows cols width stride c : ℕ) (bytes : List ℕ) → 0 < width → width ≤ stride → c < cols
    → column_of (striped_rows rows cols width stride bytes) c ≡ column_of (rows_of rows stride (slice_chunk bytes (rows * stride) (c / width))) (c % width)
column_striped rows cols width stride c bytes some fits p =
    ext_get_or 0 (column_of (striped_rows rows cols width stride bytes) c) (column_of (rows_of rows stride chunk) j)
    (length-column_of (striped_rows rows cols width stride bytes) c ∙ (length-striped_rows rows cols width stride bytes ∙
    sym (length-column_of (rows_of rows stride chunk) j ∙ length-rows_of rows stride chunk)))
    (λ r h. at_row r (subst (λ n. r < n) (length-column_of (striped_rows rows cols width stride bytes) c ∙ length-striped_rows rows cols width stride bytes) h))
  where
    k : ℕ
    k = c / width

    j : ℕ
    j = c % width

    chunk : List ℕ
    chunk = slice_chunk bytes (rows * stride) (c / width)

    at_row : (r : ℕ) → r < rows → get_or (column_of (striped_rows rows cols width stride bytes) c) r 0 ≡ get_or (column_of (rows_of rows stride chunk) j) r 0
    at_row r h =
        let column : c % width < stride = omega (arith, mod-lt c some) in
        get_or-column_of (striped_rows rows cols width stride bytes) c r ∙
        (entry_of_striped rows cols width stride bytes r c h p ∙
        (ap (λ place. get_or bytes place 0) (place_in_stripe (c / width) rows stride r (c % width)) ∙
        sym (get_or-column_of (rows_of rows stride chunk) j r ∙
        (get_or-get_or-rows_of rows stride chunk r (c % width) h column ∙
        (get_or-take (rows * stride) (drop (c / width * (rows * stride)) bytes) (r * stride + c % width) 0 (within_stripe rows stride r (c % width) h column) ∙
        get_or-drop (c / width * (rows * stride)) bytes (r * stride + c % width) 0)))))

-- rows of zeros
pub striped_zeros : (rows cols width stride n : ℕ) → striped_rows rows cols width stride (zeros n) ≡ replicate rows (zeros cols)
striped_zeros rows cols width stride n =
    ext_get_or [] (striped_rows rows cols width stride (zeros n)) (replicate rows (zeros cols))
    (length-striped_rows rows cols width stride (zeros n) ∙ sym (length-replicate rows (zeros cols)))
    (λ r h. at_row r (subst (λ m. r < m) (length-striped_rows rows cols width stride (zeros n)) h))
  where
    row_is : (r : ℕ) → striped_row rows cols width stride (zeros n) r ≡ zeros cols
    row_is r =
        ext_get_or 0 (striped_row rows cols width stride (zeros n) r) (zeros cols)
        (length-striped_row rows cols width stride (zeros n) r ∙ sym (length-replicate cols 0))
        (λ c p. get_or-striped_row rows cols width stride (zeros n) r c (subst (λ m. c < m) (length-striped_row rows cols width stride (zeros n) r) p)
        ∙ (entry_of_zeros n (byte_place rows width stride r c) ∙ sym (entry_of_zeros cols c)))

    at_row : (r : ℕ) → r < rows → get_or (striped_rows rows cols width stride (zeros n)) r [] ≡ get_or (replicate rows (zeros cols)) r []
    at_row r h = get_or-striped_rows rows cols width stride (zeros n) r h ∙ (row_is r ∙ sym (get_or-replicate rows r (zeros cols) [] h))

-- ---- what a buffer stands for

abbrev pub striped_grid : ℕ → ℕ → ℕ → ℕ → List ℕ → Grid
striped_grid rows cols width stride bytes = record { cols = cols; rows = striped_rows rows cols width stride bytes }

module _ (rows cols width stride : ℕ) (bytes : List ℕ) (g : Grid) (view : striped_grid rows cols width stride bytes ≡ g) where
  pub count_of_striped : rows ≡ length g.rows
  count_of_striped = sym (length-striped_rows rows cols width stride bytes) ∙ ap (λ (m : Grid). length m.rows) view

  pub cols_of_striped : cols ≡ g.cols
  cols_of_striped = ap (λ (m : Grid). m.cols) view

  pub byte_of_striped : (r c : ℕ) → r < length g.rows → c < g.cols → get_or bytes (byte_place rows width stride r c) 0 ≡ matrix_entry g r c
  byte_of_striped r c h p =
      sym (entry_of_striped rows cols width stride bytes r c (omega (arith, h, count_of_striped)) (omega (arith, p, cols_of_striped)))
      ∙ ap (λ (m : Grid). matrix_entry m r c) view
