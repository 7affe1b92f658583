-- Rows of bytes over the field, as lists.
use Rattle.std.specs.Prelude.{ℕ, List, [], ◌∷◌, map, slice_index}
use Rattle.gf_core.specs.Field.{gf_add, gf_mul}

-- the sum of two rows, entry by entry. It is as long as the first, and a missing entry of the second is 0
unfoldable pub row_sum : List ℕ → List ℕ → List ℕ
row_sum [] ys = []
row_sum (x ∷ xs) [] = x ∷ xs
row_sum (x ∷ xs) (y ∷ ys) = gf_add x y ∷ row_sum xs ys

-- c times a row
unfoldable pub scaled_row : ℕ → List ℕ → List ℕ
scaled_row c row = map (gf_mul c) row

-- the row dst with c times the row src added
abbrev pub add_scaled_row : List ℕ → ℕ → List ℕ → List ℕ
add_scaled_row dst c src = row_sum dst (scaled_row c src)

-- column j of some rows: the byte at place j of each
unfoldable pub column_of : List (List ℕ) → ℕ → List ℕ
column_of rows j = map (λ row. slice_index row j) rows
