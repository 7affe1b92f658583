-- What one operation does to a column, and operations one after another.
use Rattle.std.proofs.Common.{ℕ, ◌≡◌, ◌≢◌, ◌<◌, ◌+◌, ◌∙◌, inl, inr, List, [], ◌∷◌, ◌++◌, length, get_or, take, sym, ap, refl, subst, arith, lit<}
use Rattle.std.specs.Prelude.{All, Contains}
use Rattle.std.proofs.lemmas.Bool.{cases_eq}
use Rattle.std.proofs.lemmas.List.{take_more}
use Rattle.std.proofs.lemmas.List.Elements.{All-nil, All-cons, All-append, All-contains, Contains-get_or, Contains-append_left, Contains-append_right}
use Rattle.gf_core.specs.Field.{gf_add, gf_mul}
use Rattle.gf_core.specs.Rows.{scaled_row, add_scaled_row}
use Rattle.gf_core.proofs.AddLemmas.{gf_add-zero, gf_add_self}
use Rattle.gf_core.proofs.ProductLemmas.{gf_mul-zero, gf_mul-one, gf_mul_comm}
use Rattle.gf_core.proofs.RowLemmas.{byte_at, get_or-add_scaled_row, get_or-scaled_row}
use Rattle.gf_rows.specs.declared.operation.Op.{Op}
use Rattle.gf_rows.specs.declared.operation.Op.TheVariants.{AddScaled, Scale}
use Rattle.gf_rows.specs.Matrix.{Grid, IsMatrix, matrix_row, matrix_entry, with_matrix_row}
use Rattle.gf_rows.proofs.MatrixLemmas.{matrix_row-with_matrix_row_same, matrix_row-with_matrix_row_other}
use Rattle.gf_rows.proofs.SolutionLemmas.{Performed-none, Performed-add_scaled, Performed-scaled, Performed-then, length-performed}
use Rattle.bats_dense.specs.steps.Clearing.{Clears, Normalizes}

-- ---- lists of rows

pub Contains-one : (x r : ℕ) → r ≡ x → Contains (x ∷ []) r
Contains-one x r e = subst (Contains (x ∷ [])) (sym e) (Contains-get_or (x ∷ []) 0 0 (lit< tt))

pub one-Contains : (x r : ℕ) → Contains (x ∷ []) r → r ≡ x
one-Contains x r has = sym (All-contains (λ y. x ≡ y) (x ∷ []) r (All-cons (λ y. x ≡ y) x [] refl (All-nil (λ y. x ≡ y))) has)

pub entry_of_row : (m n : Grid) (r j : ℕ) → matrix_row n r ≡ matrix_row m r → matrix_entry n r j ≡ matrix_entry m r j
entry_of_row m n r j e = ap (λ (row : List ℕ). get_or row j 0) e

-- ---- a row is cleared

pub Clears-none : (pivot column : ℕ) (m : Grid) (plan : List Op) → Clears pivot column [] m m plan plan
Clears-none pivot column m plan = record {
  performed = Performed-none (pivot ∷ []) m plan;
  cleared = All-nil (λ r. matrix_entry m r column ≡ 0);
  kept = λ r h. h;
  outside = λ r h. refl;
  same = λ r j w h. refl;
}

-- the row is 0 there already
pub Clears-zero : (pivot column row : ℕ) (m : Grid) (plan : List Op) → matrix_entry m row column ≡ 0 → Clears pivot column (row ∷ []) m m plan plan
Clears-zero pivot column row m plan zero = record {
  performed = Performed-none (pivot ∷ []) m plan;
  cleared = All-cons (λ r. matrix_entry m r column ≡ 0) row [] zero (All-nil (λ r. matrix_entry m r column ≡ 0));
  kept = λ r h. h;
  outside = λ r h. refl;
  same = λ r j w h. refl;
}

module _ (pivot column row factor : ℕ) (m : Grid) (is : IsMatrix m) (pivot_within : pivot < length m.rows) (row_within : row < length m.rows) (column_within : column < m.cols)
    (apart : row ≢ pivot) (one : matrix_entry m pivot column ≡ 1) (factor_is : factor ≡ matrix_entry m row column) (byte : factor < 256) where
  abbrev added : Grid
  added = with_matrix_row m row (add_scaled_row (matrix_row m row) factor (matrix_row m pivot))

  entry_added : (j : ℕ) → j < m.cols → matrix_entry added row j ≡ gf_add (matrix_entry m row j) (gf_mul factor (matrix_entry m pivot j))
  entry_added j h =
      entry_of_sum ∙ get_or-add_scaled_row (matrix_row m row) factor (matrix_row m pivot) j (omega (arith, is.widths row [] row_within))
    where
      entry_of_sum : matrix_entry added row j ≡ get_or (add_scaled_row (matrix_row m row) factor (matrix_row m pivot)) j 0
      entry_of_sum = ap (λ (r : List ℕ). get_or r j 0) (matrix_row-with_matrix_row_same m row (add_scaled_row (matrix_row m row) factor (matrix_row m pivot)) row_within)

  other_added : (r : ℕ) → r ≢ row → matrix_row added r ≡ matrix_row m r
  other_added r h = matrix_row-with_matrix_row_other m row r (add_scaled_row (matrix_row m row) factor (matrix_row m pivot)) h

  zero_added : matrix_entry added row column ≡ 0
  zero_added =
      entry_added column column_within ∙
      (ap (λ x. gf_add (matrix_entry m row column) (gf_mul factor x)) one ∙
      (ap (gf_add (matrix_entry m row column)) (gf_mul-one factor byte ∙ factor_is) ∙
      gf_add_self (matrix_entry m row column)))

  same_added : (j : ℕ) → j < m.cols → matrix_entry m pivot j ≡ 0 → matrix_entry added row j ≡ matrix_entry m row j
  same_added j w h =
      entry_added j w ∙
      (ap (λ x. gf_add (matrix_entry m row j) (gf_mul factor x)) h ∙
      (ap (gf_add (matrix_entry m row j)) (gf_mul-zero factor) ∙ gf_add-zero (matrix_entry m row j)))

  Clears-at : (before after : List Op) → after ≡ before ++ AddScaled row pivot factor ∷ [] → Clears pivot column (row ∷ []) m added before after
  Clears-at before after pushed = record {
    performed = Performed-add_scaled (pivot ∷ []) m added before after row pivot factor (Contains-one pivot pivot refl) apart byte row_within pivot_within refl pushed;
    cleared = All-cons (λ r. matrix_entry added r column ≡ 0) row [] zero_added (All-nil (λ r. matrix_entry added r column ≡ 0));
    kept = λ r h. elim (cases_eq r row) [
      | inl e ↦ ap (λ (k : ℕ). matrix_entry added k column) e ∙ zero_added
      | inr e ↦ entry_of_row m added r column (other_added r e) ∙ h
    ];
    outside = λ r h. other_added r (λ e. h (Contains-one row r e));
    same = λ r j w h. elim (cases_eq r row) [
      | inl e ↦ ap (λ (k : ℕ). matrix_entry added k j) e ∙ (same_added j w h ∙ ap (λ (k : ℕ). matrix_entry m k j) (sym e))
      | inr e ↦ entry_of_row m added r j (other_added r e)
    ];
  }

-- a multiple of the pivot row is added
pub Clears-added : (pivot column row factor : ℕ) (m n : Grid) (before after : List Op) → IsMatrix m → pivot < length m.rows → row < length m.rows → column < m.cols
    → row ≢ pivot → matrix_entry m pivot column ≡ 1 → factor ≡ matrix_entry m row column → factor < 256
    → n ≡ with_matrix_row m row (add_scaled_row (matrix_row m row) factor (matrix_row m pivot)) → after ≡ before ++ AddScaled row pivot factor ∷ []
    → Clears pivot column (row ∷ []) m n before after
Clears-added pivot column row factor m n before after is p q w apart one factor_is byte changed pushed =
    subst (λ (g : Grid). Clears pivot column (row ∷ []) m g before after) (sym changed)
    (Clears-at pivot column row factor m is p q w apart one factor_is byte before after pushed)

-- more rows
pub Clears-then : (pivot column : ℕ) (xs ys : List ℕ) (a b c : Grid) (p q r : List Op) → Clears pivot column xs a b p q → Clears pivot column ys b c q r → Clears pivot column (xs ++ ys) a c p r
Clears-then pivot column xs ys a b c p q r first next = record {
  performed = Performed-then first.performed next.performed;
  cleared = All-append (λ k. matrix_entry c k column ≡ 0) xs ys (λ k d h. next.kept (get_or xs k d) (first.cleared k d h)) next.cleared;
  kept = λ k h. next.kept k (first.kept k h);
  outside = λ k h.
      next.outside k (λ has. h (Contains-append_right xs ys k has)) ∙ first.outside k (λ has. h (Contains-append_left xs ys k has));
  same = λ k j w h.
      next.same k j (subst (λ n. j < n) (sym first.performed.cols) w) (first.same pivot j w h ∙ h) ∙ first.same k j w h;
}

-- ---- a row is made 1

-- it is 1 there already
pub Normalizes-one : (row column : ℕ) (m : Grid) (plan : List Op) → matrix_entry m row column ≡ 1 → Normalizes row column m m plan plan
Normalizes-one row column m plan one = record {
  performed = Performed-none (row ∷ []) m plan;
  one = one;
  outside = λ r h. refl;
  same = λ r j h. refl;
}

module _ (row column factor : ℕ) (m : Grid) (is : IsMatrix m) (row_within : row < length m.rows) (product : gf_mul (matrix_entry m row column) factor ≡ 1) (byte : factor < 256) where
  abbrev scaled : Grid
  scaled = with_matrix_row m row (scaled_row factor (matrix_row m row))

  entry_scaled : (j : ℕ) → matrix_entry scaled row j ≡ gf_mul factor (matrix_entry m row j)
  entry_scaled j =
      ap (λ (r : List ℕ). get_or r j 0) (matrix_row-with_matrix_row_same m row (scaled_row factor (matrix_row m row)) row_within) ∙
      get_or-scaled_row factor (matrix_row m row) j

  other_scaled : (r : ℕ) → r ≢ row → matrix_row scaled r ≡ matrix_row m r
  other_scaled r h = matrix_row-with_matrix_row_other m row r (scaled_row factor (matrix_row m row)) h

  nonzero_scaled : factor ≢ 0
  nonzero_scaled zero =
      let one : 0 ≡ 1 = sym (gf_mul-zero (matrix_entry m row column)) ∙ (ap (gf_mul (matrix_entry m row column)) (sym zero) ∙ product) in
      omega (arith, one)

  Normalizes-at : (before after : List Op) → after ≡ before ++ Scale row factor ∷ [] → Normalizes row column m scaled before after
  Normalizes-at before after pushed = record {
    performed = Performed-scaled (row ∷ []) m scaled before after row factor (Contains-one row row refl) nonzero_scaled byte row_within refl pushed;
    one = entry_scaled column ∙ (gf_mul_comm factor (matrix_entry m row column) byte (byte_at (matrix_row m row) column (is.bytes row [] row_within)) ∙ product);
    outside = other_scaled;
    same = λ r j h. elim (cases_eq r row) [
      | inl e ↦
          ap (λ (k : ℕ). matrix_entry scaled k j) e ∙
          (entry_scaled j ∙ (ap (gf_mul factor) h ∙ (gf_mul-zero factor ∙ (sym h ∙ ap (λ (k : ℕ). matrix_entry m k j) (sym e)))))
      | inr e ↦ entry_of_row m scaled r j (other_scaled r e)
    ];
  }

-- it is scaled
pub Normalizes-scaled : (row column factor : ℕ) (m n : Grid) (before after : List Op) → IsMatrix m → row < length m.rows
    → gf_mul (matrix_entry m row column) factor ≡ 1 → factor < 256
    → n ≡ with_matrix_row m row (scaled_row factor (matrix_row m row)) → after ≡ before ++ Scale row factor ∷ []
    → Normalizes row column m n before after
Normalizes-scaled row column factor m n before after is p product byte changed pushed =
    subst (λ (g : Grid). Normalizes row column m g before after) (sym changed)
    (Normalizes-at row column factor m is p product byte before after pushed)

-- an inverse isn't 0
pub inverse_nonzero : (entry factor : ℕ) → gf_mul entry factor ≡ 1 → factor ≢ 0
inverse_nonzero entry factor product zero =
    let one : 0 ≡ 1 = sym (gf_mul-zero entry) ∙ (ap (gf_mul entry) (sym zero) ∙ product) in
    omega (arith, one)

-- ---- one row after another

pub Clears-more : (pivot column : ℕ) (rows : List ℕ) (i : ℕ) (a b c : Grid) (p q r : List Op) → i < length rows
    → Clears pivot column (take i rows) a b p q → Clears pivot column (get_or rows i 0 ∷ []) b c q r → Clears pivot column (take (i + 1) rows) a c p r
Clears-more pivot column rows i a b c p q r h first next =
    subst (λ (taken : List ℕ). Clears pivot column taken a c p r) (sym (take_more rows i 0 h))
    (Clears-then pivot column (take i rows) (get_or rows i 0 ∷ []) a b c p q r first next)

pub Clears-row_within : (pivot column : ℕ) (rows : List ℕ) (a b : Grid) (p q : List Op) (r : ℕ) → Clears pivot column rows a b p q → r < length a.rows → r < length b.rows
Clears-row_within pivot column rows a b p q r did h = subst (λ n. r < n) (sym (length-performed did.performed)) h

pub Clears-column_within : (pivot column : ℕ) (rows : List ℕ) (a b : Grid) (p q : List Op) → Clears pivot column rows a b p q → column < a.cols → column < b.cols
Clears-column_within pivot column rows a b p q did h = subst (λ n. column < n) (sym did.performed.cols) h

-- the pivot row stays
pub Clears-pivot : (pivot column : ℕ) (rows : List ℕ) (a b : Grid) (p q : List Op) → Clears pivot column rows a b p q → All (λ r. r ≢ pivot) rows → matrix_row b pivot ≡ matrix_row a pivot
Clears-pivot pivot column rows a b p q did apart =
    did.outside pivot (λ has. All-contains (λ r. r ≢ pivot) rows pivot apart has refl)

pub Clears-pivot_one : (pivot column : ℕ) (rows : List ℕ) (a b : Grid) (p q : List Op) → Clears pivot column rows a b p q → All (λ r. r ≢ pivot) rows
    → matrix_entry a pivot column ≡ 1 → matrix_entry b pivot column ≡ 1
Clears-pivot_one pivot column rows a b p q did apart one = entry_of_row a b pivot column (Clears-pivot pivot column rows a b p q did apart) ∙ one
