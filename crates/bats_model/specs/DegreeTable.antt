-- The two degree tables. A row is a degree and its weight; the weights of a table sum to 1,000.
use Rattle.std.specs.Prelude.{ℕ, ◌+◌, ◌==◌, List, [], ◌∷◌, if◌then◌else◌, nat_lt}

-- table 0, as rows of a degree and its weight, degrees rising
abbrev pub table_0 : List (ℕ × ℕ)
table_0 =
    (12, 100) ∷ (16, 250) ∷ (20, 200) ∷ (26, 150) ∷ (36, 120) ∷ (52, 90) ∷ (80, 60) ∷ (128, 30) ∷ []

-- table 1
abbrev pub table_1 : List (ℕ × ℕ)
table_1 =
    (1, 20) ∷ (2, 480) ∷ (3, 170) ∷ (4, 90) ∷ (6, 80) ∷ (10, 70) ∷ (20, 50) ∷ (40, 40) ∷ []

-- the table of this number
abbrev pub degree_table : ℕ → List (ℕ × ℕ)
degree_table number = if number == 0 then table_0 else table_1

-- the degree of the first row at which the running sum of the weights, which stands at `sum` before these
-- rows, is greater than the number
unfoldable pub first_degree_above : List (ℕ × ℕ) → ℕ → ℕ → ℕ
first_degree_above [] sum number = 0
first_degree_above (row ∷ rows) sum number =
    if nat_lt number (sum + row.1) then row.0 else first_degree_above rows (sum + row.1) number

-- the degree that a table gives a number below 1,000
unfoldable pub degree_at : List (ℕ × ℕ) → ℕ → ℕ
degree_at table number = first_degree_above table 0 number
