-- Combinations of rows of bytes over the field, and what some rows span.
use Rattle.std.specs.Prelude.{ℕ, ◌≡◌, List, [], ◌∷◌, length, replicate}
use Rattle.gf_core.specs.Bytes.{AreBytes}
use Rattle.gf_core.specs.Rows.{add_scaled_row}

-- the sum of the rows, each times its factor, as one row of this width: a longer row is cut, and a missing entry, row
-- or factor counts as zeros
unfoldable pub combination : ℕ → List ℕ → List (List ℕ) → List ℕ
combination width [] rows = replicate width 0
combination width (c ∷ cs) [] = replicate width 0
combination width (c ∷ cs) (row ∷ rows) = add_scaled_row (combination width cs rows) c row

-- the row is a combination of the rows: there are factors, one byte for each row, whose multiples of the rows sum to it
pub record IsInSpan (width : ℕ) (rows : List (List ℕ)) (row : List ℕ) : Type 0 where
  pub factors : List ℕ
  pub bytes : AreBytes factors
  pub size : length factors ≡ length rows
  pub sums : combination width factors rows ≡ row
