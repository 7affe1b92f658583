-- The degree tables.
use Rattle.std.proofs.Common.{true, ℕ, ◌≡◌, ◌<◌, ◌≤◌, ◌+◌, List, [], ◌∷◌, ltb, eqb, refl, arith, suc, drop, get_or, length, drop-cons, add-one, ap, sym, ◌∙◌, subst}
use Rattle.std.specs.Prelude.{nat_le}
use Rattle.std.specs.List.{sum_by, list_all}
use Rattle.std.proofs.lemmas.Bool.{cond_both, cond_below, cond_above, and_parts, leb-true, ltb-false}
use Rattle.std.proofs.lemmas.List.{drop_all}
use Rattle.std.proofs.lemmas.List.Sums.{sum_by-cons}
use Rattle.bats_model.specs.DegreeTable.{table_0, table_1, degree_table, degree_at, first_degree_above}

-- the weights of a table sum to 1,000
pub weights-table_0 : sum_by (λ (row : ℕ × ℕ). row.1) table_0 ≡ 1000
weights-table_0 = refl

pub weights-table_1 : sum_by (λ (row : ℕ × ℕ). row.1) table_1 ≡ 1000
weights-table_1 = refl

first_degree_above-le : (m : ℕ) (rows : List (ℕ × ℕ)) (sum number : ℕ)
    → list_all (λ row. nat_le row.0 m) rows ≡ true → first_degree_above rows sum number ≤ m
unfolding first_degree_above
first_degree_above-le m [] sum number all = omega arith
first_degree_above-le m (row ∷ rows) sum number all =
    let parts = and_parts (nat_le row.0 m) (list_all (λ row. nat_le row.0 m) rows) all in
    cond_both (ltb number (sum + row.1)) row.0 (first_degree_above rows (sum + row.1) number) (λ d. d ≤ m)
    (λ _. leb-true row.0 m parts.0) (λ _. first_degree_above-le m rows (sum + row.1) number parts.1)

-- a degree is at most 128
pub degree_at-le : (table number : ℕ) → degree_at (degree_table table) number ≤ 128
unfolding degree_at
degree_at-le table number =
    cond_both (eqb table 0) table_0 table_1 (λ rows. first_degree_above rows 0 number ≤ 128)
    (λ _. first_degree_above-le 128 table_0 0 number refl) (λ _. first_degree_above-le 128 table_1 0 number refl)

first_degree_above-some : (rows : List (ℕ × ℕ)) (sum number : ℕ) → list_all (λ row. nat_le 1 row.0) rows ≡ true
    → sum ≤ number → number < sum + sum_by (λ (row : ℕ × ℕ). row.1) rows → 1 ≤ first_degree_above rows sum number
unfolding first_degree_above
first_degree_above-some [] sum number all low high = absurd (omega arith)
first_degree_above-some (row ∷ rows) sum number all low high =
    let parts = and_parts (nat_le 1 row.0) (list_all (λ row. nat_le 1 row.0) rows) all in
    cond_both (ltb number (sum + row.1)) row.0 (first_degree_above rows (sum + row.1) number) (λ d. 1 ≤ d)
    (λ _. leb-true 1 row.0 parts.0)
    (λ above. first_degree_above-some rows (sum + row.1) number parts.1 (ltb-false number (sum + row.1) above)
    (omega (arith, high, sum_by-cons (λ (r : ℕ × ℕ). r.1) row rows)))

-- since the weights sum to 1,000, each number below that has a row, whose degree isn't 0
pub degree_at-some : (table number : ℕ) → number < 1000 → 1 ≤ degree_at (degree_table table) number
unfolding degree_at
degree_at-some table number low =
    cond_both (eqb table 0) table_0 table_1 (λ rows. 1 ≤ first_degree_above rows 0 number)
    (λ _. first_degree_above-some table_0 0 number refl (omega arith) (subst (λ all. number < all) (sym weights-table_0) low))
    (λ _. first_degree_above-some table_1 0 number refl (omega arith) (subst (λ all. number < all) (sym weights-table_1) low))

-- a row at which the sum is greater than the number
pub row_above : (rows : List (ℕ × ℕ)) (i sum number degree : ℕ) → i < length rows
    → first_degree_above (drop i rows) sum number ≡ degree → number < sum + (get_or rows i (0, 0)).1
    → (get_or rows i (0, 0)).0 ≡ degree
unfolding first_degree_above
row_above rows i sum number degree lt before test =
    let row : ℕ × ℕ = get_or rows i (0, 0) in
    cond_below number (sum + row.1) row.0 (first_degree_above (drop (suc i) rows) (sum + row.1) number) test
    ∙ ap (λ xs. first_degree_above xs sum number) (sym (drop-cons rows i (0, 0) lt)) ∙ before

-- and one at which it is not
pub row_not_above : (rows : List (ℕ × ℕ)) (i sum number degree : ℕ) → i < length rows
    → first_degree_above (drop i rows) sum number ≡ degree → sum + (get_or rows i (0, 0)).1 ≤ number
    → first_degree_above (drop (i + 1) rows) (sum + (get_or rows i (0, 0)).1) number ≡ degree
unfolding first_degree_above
row_not_above rows i sum number degree lt before test =
    let row : ℕ × ℕ = get_or rows i (0, 0) in
    ap (λ n. first_degree_above (drop n rows) (sum + row.1) number) (add-one i)
    ∙ cond_above number (sum + row.1) row.0 (first_degree_above (drop (suc i) rows) (sum + row.1) number) _ test refl
    ∙ ap (λ xs. first_degree_above xs sum number) (sym (drop-cons rows i (0, 0) lt)) ∙ before

pub no_row : (rows : List (ℕ × ℕ)) (i sum number degree : ℕ) → length rows ≤ i
    → first_degree_above (drop i rows) sum number ≡ degree → 0 ≡ degree
unfolding first_degree_above
no_row rows i sum number degree le before =
    ap (λ xs. first_degree_above xs sum number) (sym (drop_all i rows le)) ∙ before
