-- Matrices: what their buffer says of their rows, and what a change to one row leaves.
use Rattle.std.proofs.Common.{ℕ, ◌≡◌, ◌≢◌, ◌<◌, ◌≤◌, ◌+◌, ◌*◌, ◌∙◌, List, [], length, get_or, set, take, drop, sym, ap, refl, subst, arith, length-set}
use Rattle.std.proofs.lemmas.List.{get_or-set_same, get_or-set_other}
use Rattle.std.proofs.lemmas.List.Elements.{All-set}
use Rattle.gf_core.specs.Bytes.{AreBytes}
use Rattle.gf_core.specs.Rows.{scaled_row, add_scaled_row}
use Rattle.gf_rows.specs.declared.operation.Op.TheVariants.{AddScaled, Scale}
use Rattle.gf_rows.specs.Operation.{op_on_rows}
use Rattle.gf_rows.specs.Matrix.{Grid, IsMatrix, matrix_row, matrix_entry, with_matrix_row, rows_of, with_part}
use Rattle.gf_core.proofs.RowLemmas.{length-scaled_row, length-add_scaled_row, scaled_row-lt, add_scaled_row-lt}
use Rattle.gf_rows.proofs.BufferLemmas.{length-part, length-rows_of, get_or-rows_of, get_or-get_or-rows_of, row_within, widths_of_rows, bytes_of_rows, rows_of-with_part, set_as_part}

-- ---- for callers: the rows after a change to one of them

pub matrix_row-with_matrix_row_same : (m : Grid) (r : ℕ) (row : List ℕ) → r < length m.rows → matrix_row (with_matrix_row m r row) r ≡ row
matrix_row-with_matrix_row_same m r row h = get_or-set_same m.rows r row [] h

pub matrix_row-with_matrix_row_other : (m : Grid) (r k : ℕ) (row : List ℕ) → k ≢ r → matrix_row (with_matrix_row m r row) k ≡ matrix_row m k
matrix_row-with_matrix_row_other m r k row h = get_or-set_other m.rows r k row [] h

pub length-with_matrix_row : (m : Grid) (r : ℕ) (row : List ℕ) → length (with_matrix_row m r row).rows ≡ length m.rows
length-with_matrix_row m r row = length-set m.rows r row

pub IsMatrix-with_matrix_row : (m : Grid) (r : ℕ) (row : List ℕ) → IsMatrix m → length row ≡ m.cols → AreBytes row → IsMatrix (with_matrix_row m r row)
IsMatrix-with_matrix_row m r row h l bytes = record {
  widths = All-set (λ row. length row ≡ m.cols) m.rows r row l h.widths;
  bytes = All-set AreBytes m.rows r row bytes h.bytes;
}

-- after a sum of rows
pub IsMatrix-add_scaled : (m : Grid) (dst c src : ℕ) → IsMatrix m → dst < length m.rows → src < length m.rows
    → IsMatrix (with_matrix_row m dst (add_scaled_row (matrix_row m dst) c (matrix_row m src)))
IsMatrix-add_scaled m dst c src h p q =
    IsMatrix-with_matrix_row m dst (add_scaled_row (matrix_row m dst) c (matrix_row m src)) h
    (length-add_scaled_row (matrix_row m dst) c (matrix_row m src) ∙ h.widths dst [] p)
    (add_scaled_row-lt (matrix_row m dst) c (matrix_row m src) (h.bytes dst [] p) (h.bytes src [] q))

-- after a scaling of a row
pub IsMatrix-scaled : (m : Grid) (r c : ℕ) → IsMatrix m → r < length m.rows → IsMatrix (with_matrix_row m r (scaled_row c (matrix_row m r)))
IsMatrix-scaled m r c h p =
    IsMatrix-with_matrix_row m r (scaled_row c (matrix_row m r)) h
    (length-scaled_row c (matrix_row m r) ∙ h.widths r [] p)
    (scaled_row-lt c (matrix_row m r) (h.bytes r [] p))

-- what the matrix's own row operations do to the rows is what an operation of a plan does
pub add_scaled-op_on_rows : (m : Grid) (dst src factor : ℕ) → (with_matrix_row m dst (add_scaled_row (matrix_row m dst) factor (matrix_row m src))).rows ≡ op_on_rows m.rows (AddScaled dst src factor)
add_scaled-op_on_rows m dst src factor = refl

pub scaled-op_on_rows : (m : Grid) (row factor : ℕ) → (with_matrix_row m row (scaled_row factor (matrix_row m row))).rows ≡ op_on_rows m.rows (Scale row factor)
scaled-op_on_rows m row factor = refl

-- ---- for the matrix's own methods: m is what a buffer of n rows of w bytes stands for

abbrev pub grid : ℕ → ℕ → List ℕ → Grid
grid n w bytes = record { cols = w; rows = rows_of n w bytes }

pub count_of_grid : (n w : ℕ) (bytes : List ℕ) (m : Grid) → grid n w bytes ≡ m → n ≡ length m.rows
count_of_grid n w bytes m e = sym (length-rows_of n w bytes) ∙ ap (λ (g : Grid). length g.rows) e

pub below_of_grid : (n w : ℕ) (bytes : List ℕ) (m : Grid) (r : ℕ) → grid n w bytes ≡ m → r < length m.rows → r < n
below_of_grid n w bytes m r e h = omega (arith, count_of_grid n w bytes m e)

pub row_of_grid : (n w : ℕ) (bytes : List ℕ) (m : Grid) (r : ℕ) → grid n w bytes ≡ m → r < length m.rows → take w (drop (r * w) bytes) ≡ matrix_row m r
row_of_grid n w bytes m r e h =
    sym (get_or-rows_of n w bytes r (below_of_grid n w bytes m r e h)) ∙ ap (λ (g : Grid). get_or g.rows r []) e

pub entry_of_grid : (n w : ℕ) (bytes : List ℕ) (m : Grid) (r c : ℕ) → grid n w bytes ≡ m → r < length m.rows → c < m.cols → get_or bytes (r * w + c) 0 ≡ matrix_entry m r c
entry_of_grid n w bytes m r c e h p =
    let cols : w ≡ m.cols = ap (λ (g : Grid). g.cols) e in
    sym (get_or-get_or-rows_of n w bytes r c (below_of_grid n w bytes m r e h) (omega (arith, cols))) ∙ ap (λ (g : Grid). get_or (get_or g.rows r []) c 0) e

pub within_grid : (n w : ℕ) (bytes : List ℕ) (m : Grid) (r : ℕ) → grid n w bytes ≡ m → length bytes ≡ n * w → r < length m.rows → r * w + w ≤ length bytes
within_grid n w bytes m r e l h = row_within n w r (length bytes) l (below_of_grid n w bytes m r e h)

pub place_of_grid : (n w : ℕ) (bytes : List ℕ) (m : Grid) (r c : ℕ) → grid n w bytes ≡ m → length bytes ≡ n * w → r < length m.rows → c < m.cols → r * w + c < length bytes
place_of_grid n w bytes m r c e l h p =
    let cols : w ≡ m.cols = ap (λ (g : Grid). g.cols) e in
    let within = within_grid n w bytes m r e l h in
    omega (arith, within, cols)

pub IsMatrix-grid : (n w : ℕ) (bytes : List ℕ) → length bytes ≡ n * w → AreBytes bytes → IsMatrix (grid n w bytes)
IsMatrix-grid n w bytes l p = record { widths = widths_of_rows n w bytes l; bytes = bytes_of_rows n w bytes p }

pub IsMatrix-of_grid : (n w : ℕ) (bytes : List ℕ) (m : Grid) → grid n w bytes ≡ m → length bytes ≡ n * w → AreBytes bytes → IsMatrix m
IsMatrix-of_grid n w bytes m e l p = subst IsMatrix e (IsMatrix-grid n w bytes l p)

-- the buffer with another row
pub grid-with_part : (n w : ℕ) (bytes ws : List ℕ) (m : Grid) (r : ℕ) (row : List ℕ) → grid n w bytes ≡ m → length bytes ≡ n * w → r < length m.rows → length row ≡ w
    → ws ≡ with_part bytes (r * w) row → grid n w ws ≡ with_matrix_row m r row
grid-with_part n w bytes ws m r row e l h len is =
    ap (grid n w) is ∙
    (ap (λ rows. record { cols = w; rows = rows }) (rows_of-with_part n w bytes r row l (below_of_grid n w bytes m r e h) len) ∙
    ap (λ (g : Grid). with_matrix_row g r row) e)

-- the buffer with one byte written
pub grid-set : (n w : ℕ) (bytes : List ℕ) (m : Grid) (r c v : ℕ) → grid n w bytes ≡ m → length bytes ≡ n * w → r < length m.rows → c < m.cols
    → grid n w (set bytes (r * w + c) v) ≡ with_matrix_row m r (set (matrix_row m r) c v)
grid-set n w bytes m r c v e l h p =
    let cols : w ≡ m.cols = ap (λ (g : Grid). g.cols) e in
    let within : r * w + w ≤ length bytes = within_grid n w bytes m r e l h in
    let row : take w (drop (r * w) bytes) ≡ matrix_row m r = row_of_grid n w bytes m r e h in
    let width : length (set (take w (drop (r * w) bytes)) c v) ≡ w =
    length-set (take w (drop (r * w) bytes)) c v ∙ length-part bytes (r * w) w within in
    grid-with_part n w bytes (set bytes (r * w + c) v) m r (set (take w (drop (r * w) bytes)) c v) e l h width
    (set_as_part bytes (r * w) w c v within (omega (arith, cols))) ∙
    ap (λ old. with_matrix_row m r (set old c v)) row
