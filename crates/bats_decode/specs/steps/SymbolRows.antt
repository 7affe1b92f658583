-- The rows of the symbols once the plan was run.
use Rattle.std.specs.Prelude.{ℕ, List, [], ◌∷◌, flat_map}
use Rattle.bats_model.specs.declared.answer.Answer.{Answer}
use Rattle.bats_model.specs.declared.answer.Answer.TheVariants.{File, Inconsistent, NeedMore}
use Rattle.bats_decode.specs.declared.elimination.Origin.{Origin}
use Rattle.bats_decode.specs.declared.elimination.Origin.TheVariants.{Row, Free}

-- the row at an origin, if it is one
abbrev pub row_at : Origin → List ℕ
row_at (Row r) = r ∷ []
row_at (Free i) = []

-- the rows of the symbols that have one, in order
unfoldable pub symbol_rows : List Origin → List ℕ
symbol_rows origins = flat_map row_at origins

-- these where the answer is a file, and none where it isn't
abbrev pub rows_with : List Origin → Answer → List ℕ
rows_with origins (File file) = symbol_rows origins
rows_with origins Inconsistent = []
rows_with origins (NeedMore at_symbol first second) = []
