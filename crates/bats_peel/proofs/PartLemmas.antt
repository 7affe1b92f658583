-- What row operations, in the matrix and at the end of the plan, do to what the payload rows give.
use Rattle.std.proofs.Common.{ℕ, zero, suc, ◌≡◌, ◌≢◌, ◌<◌, ◌≤◌, ◌+◌, ◌∙◌, ◌⊎◌, inl, inr, Bool, true, false, List, [], ◌∷◌, ◌++◌, length, get_or, set, take, sym, ap, refl, subst, arith, add-one}
use Rattle.std.specs.Prelude.{◌==◌, AllPairs, Contains, All, slice_get, Some, if◌then◌else◌}
use Rattle.std.proofs.lemmas.Bool.{cases_eq, eq-eqb, eqb-true, false_from_ne_true}
use Rattle.std.proofs.lemmas.List.{get_or-set_same, get_or-set_other, ext_get_or, take_more}
use Rattle.std.proofs.lemmas.List.FromFn.{length-map-range_with_len, get_or-map-range_with_len}
use Rattle.std.proofs.lemmas.List.Elements.{All-head, All-tail, All-nil, All-cons, All-append, Contains-push}
use Rattle.std.proofs.lemmas.Option.{get_or_from_slice_get, slice_get_within}
use Rattle.gf_core.specs.Field.{gf_add, gf_mul, gf_sum}
use Rattle.gf_core.specs.Rows.{scaled_row, add_scaled_row}
use Rattle.gf_core.proofs.AddLemmas.{zero-gf_add, gf_add_comm, gf_add-zero, gf_add_self, gf_add_assoc, gf_add_cancel_left}
use Rattle.gf_core.proofs.SumLemmas.{gf_sum-zeros, gf_sum-first, gf_sum-zero, gf_sum-more, gf_sum-congruence, gf_sum-one, gf_sum-gf_add}
use Rattle.gf_core.proofs.ProductLemmas.{zero-gf_mul, gf_mul-gf_add_left}
use Rattle.gf_core.proofs.RowLemmas.{length-row_sum}
use Rattle.gf_rows.specs.declared.operation.Op.{Op}
use Rattle.gf_rows.specs.declared.operation.Op.TheVariants.{AddScaled, Scale}
use Rattle.gf_rows.specs.Matrix.{Grid, IsMatrix, matrix_row, matrix_entry, with_matrix_row}
use Rattle.gf_rows.specs.Operation.{IsRowOperation, HasByteFactor, FitsRows, op_on_column, op_on_rows}
use Rattle.gf_rows.specs.Plan.{plan_on_column, plan_on_rows}
use Rattle.gf_rows.specs.Performed.{TakesFrom, Performed}
use Rattle.gf_rows.specs.Equations.{row_value}
use Rattle.gf_rows.proofs.PlanLemmas.{length-plan_on_column, length-op_on_rows, plan_on_column-push}
use Rattle.gf_rows.proofs.MatrixLemmas.{matrix_row-with_matrix_row_same, matrix_row-with_matrix_row_other, length-with_matrix_row}
use Rattle.gf_rows.proofs.SolutionLemmas.{results, get_or-results, results-performed}
use Rattle.bats_model.specs.Batch.{degree_of, contributor_of}
use Rattle.bats_model.specs.Peeling.{is_in}
use Rattle.bats_peel.specs.declared.local.Local.{Local}
use Rattle.bats_peel.specs.declared.peeled.Place.{Place}
use Rattle.bats_peel.specs.declared.peeled.Place.TheVariants.{Row, Column}
use Rattle.bats_peel.specs.Peeled.{place_of}
use Rattle.bats_peel.specs.steps.Fixing.{IsLocal}
use Rattle.bats_peel.specs.steps.Parts.{part, place_value, segment, AreValuesOf, Keeps, Sets, Changes, IsApart, IsBeyond, ArePlacesApart, ArePlacesBeyond, known_term, contributor_term, with_terms, known_count, count_true}

-- ---- what is kept

pub Keeps-none : (m : Grid) (p : List Op) → IsMatrix m → Keeps m m p p
Keeps-none m p matrix = record { matrix = matrix; cols = refl; rows = refl; fits = λ fits. fits }

pub Keeps-then : {m n o : Grid} {p q r : List Op} → Keeps m n p q → Keeps n o q r → Keeps m o p r
Keeps-then {m} {n} {o} {p} {q} {r} first next = record {
  matrix = next.matrix;
  cols = next.cols ∙ first.cols;
  rows = next.rows ∙ first.rows;
  fits = λ fits.
      subst (λ count. All (FitsRows count) r) first.rows
      (next.fits (subst (λ count. All (FitsRows count) q) (sym first.rows) (first.fits fits)));
}

pub AreValuesOf-kept : {m n : Grid} {p q : List Op} {column : List ℕ} {values : ℕ → ℕ} → Keeps m n p q → AreValuesOf m column values
    → AreValuesOf n column values
AreValuesOf-kept kept are = record { size = are.size ∙ sym kept.rows; bytes = λ j h. are.bytes j (omega (arith, kept.cols)) }

pub Sets-given : {row : ℕ} {m n : Grid} {p q : List Op} (f g : List ℕ → (ℕ → ℕ) → ℕ) → Sets row m n p q f
    → ((column : List ℕ) (values : ℕ → ℕ) → AreValuesOf m column values → f column values ≡ g column values) → Sets row m n p q g
Sets-given f g sets same = record {
  keeps = sets.keeps;
  here = λ column values are. sets.here column values are ∙ same column values are;
  others = sets.others;
}

pub Sets-none : (row : ℕ) (m : Grid) (p : List Op) (f : List ℕ → (ℕ → ℕ) → ℕ) → IsMatrix m
    → ((column : List ℕ) (values : ℕ → ℕ) → part m p column values row ≡ f column values) → Sets row m m p p f
Sets-none row m p f matrix same = record {
  keeps = Keeps-none m p matrix;
  here = λ column values are. same column values;
  others = λ column values are r other. refl;
}

-- ---- one operation

-- what the rows give, as a list
abbrev given_rows : Grid → List Op → List ℕ → (ℕ → ℕ) → List ℕ
given_rows m p column values = results m (plan_on_column p column) values

part_at : (m : Grid) (p : List Op) (column : List ℕ) (values : ℕ → ℕ) (r : ℕ) → AreValuesOf m column values
    → get_or (given_rows m p column values) r 0 ≡ part m p column values r
part_at m p column values r are = get_or-results m (plan_on_column p column) values r (length-plan_on_column p column ∙ are.size)

length-given_rows : (m : Grid) (p : List Op) (column : List ℕ) (values : ℕ → ℕ) → AreValuesOf m column values
    → length (given_rows m p column values) ≡ length m.rows
length-given_rows m p column values are =
    length-row_sum (plan_on_column p column) _ ∙ length-plan_on_column p column ∙ are.size

-- an operation, in the matrix and at the end of the plan, that sets one row of each column
Sets-op : (m n : Grid) (p q : List Op) (op : Op) (sources : List ℕ) (row : ℕ) (value : List ℕ → ℕ) → IsMatrix m → IsMatrix n
    → TakesFrom sources op → IsRowOperation op → HasByteFactor op → FitsRows (length m.rows) op → row < length m.rows
    → n ≡ record { cols = m.cols; rows = op_on_rows m.rows op } → q ≡ p ++ op ∷ []
    → ((column : List ℕ) → op_on_column column op ≡ set column row (value column))
    → Sets row m n p q (λ column values. value (given_rows m p column values))
unfolding plan_on_rows plan_on_column
Sets-op m n p q op sources row value matrix after takes rule byte fits within changed pushed sets =
    let did : Performed sources m n p q = record {
      ops = op ∷ [];
      plan = pushed;
      rows = ap (λ (g : Grid). g.rows) changed;
      cols = ap (λ (g : Grid). g.cols) changed;
      takes = All-cons (TakesFrom sources) op [] takes (All-nil (TakesFrom sources));
      is = record { rule = All-cons IsRowOperation op [] rule (All-nil IsRowOperation); bytes = All-cons HasByteFactor op [] byte (All-nil HasByteFactor) };
      fits = All-cons (FitsRows (length m.rows)) op [] fits (All-nil (FitsRows (length m.rows)));
    } in
    let keeps : Keeps m n p q = record {
      matrix = after;
      cols = did.cols;
      rows = ap length did.rows ∙ length-op_on_rows m.rows op;
      fits = λ before. subst (All (FitsRows (length m.rows))) (sym pushed) (All-append (FitsRows (length m.rows)) p (op ∷ []) before did.fits);
    } in
    let whole : (column : List ℕ) (values : ℕ → ℕ) → AreValuesOf m column values
    → given_rows n q column values ≡ set (given_rows m p column values) row (value (given_rows m p column values)) =
    λ column values are. results-performed column values did matrix are.size are.bytes ∙ sets (given_rows m p column values) in
    record {
      keeps = keeps;
      here = λ column values are.
          let old : List ℕ = given_rows m p column values in
          sym (part_at n q column values row (AreValuesOf-kept keeps are))
          ∙ ap (λ (ys : List ℕ). get_or ys row 0) (whole column values are)
          ∙ get_or-set_same old row (value old) 0 (omega (arith, length-given_rows m p column values are));
      others = λ column values are r other.
          let old : List ℕ = given_rows m p column values in
          sym (part_at n q column values r (AreValuesOf-kept keeps are))
          ∙ ap (λ (ys : List ℕ). get_or ys r 0) (whole column values are)
          ∙ get_or-set_other old row r (value old) 0 other
          ∙ part_at m p column values r are;
    }

pub Sets-add_row : (m n : Grid) (p q : List Op) (row src factor : ℕ) → IsMatrix m → IsMatrix n → row < length m.rows → src < length m.rows
    → row ≢ src → factor < 256 → n ≡ with_matrix_row m row (add_scaled_row (matrix_row m row) factor (matrix_row m src))
    → q ≡ p ++ AddScaled row src factor ∷ []
    → Sets row m n p q (λ column values. gf_add (part m p column values row) (gf_mul factor (part m p column values src)))
Sets-add_row m n p q row src factor matrix after within from apart byte changed pushed =
    Sets-given (λ column values. gf_add (get_or (given_rows m p column values) row 0) (gf_mul factor (get_or (given_rows m p column values) src 0)))
    (λ column values. gf_add (part m p column values row) (gf_mul factor (part m p column values src)))
    (Sets-op m n p q (AddScaled row src factor) (src ∷ []) row (λ (ys : List ℕ). gf_add (get_or ys row 0) (gf_mul factor (get_or ys src 0)))
    matrix after (Contains-push [] src) apart byte (within, from) within changed pushed (λ column. refl))
    (λ column values are.
    ap (λ (y : ℕ). gf_add y (gf_mul factor (get_or (given_rows m p column values) src 0))) (part_at m p column values row are)
    ∙ ap (λ (y : ℕ). gf_add (part m p column values row) (gf_mul factor y)) (part_at m p column values src are))

pub Sets-scale_row : (m n : Grid) (p q : List Op) (row factor : ℕ) → IsMatrix m → IsMatrix n → row < length m.rows → factor ≢ 0 → factor < 256
    → n ≡ with_matrix_row m row (scaled_row factor (matrix_row m row)) → q ≡ p ++ Scale row factor ∷ []
    → Sets row m n p q (λ column values. gf_mul factor (part m p column values row))
Sets-scale_row m n p q row factor matrix after within nonzero byte changed pushed =
    Sets-given (λ column values. gf_mul factor (get_or (given_rows m p column values) row 0))
    (λ column values. gf_mul factor (part m p column values row))
    (Sets-op m n p q (Scale row factor) (row ∷ []) row (λ (ys : List ℕ). gf_mul factor (get_or ys row 0))
    matrix after (Contains-push [] row) nonzero byte within within changed pushed (λ column. refl))
    (λ column values are. ap (gf_mul factor) (part_at m p column values row are))

-- ---- an entry that changes

-- a sum in which one term changes
pub gf_sum-changed : (n c d : ℕ) (f g : ℕ → ℕ) → c < n → g c ≡ gf_add (f c) d → ((j : ℕ) → j < n → j ≢ c → g j ≡ f j)
    → gf_sum n g ≡ gf_add (gf_sum n f) d
gf_sum-changed n c d f g within here elsewhere =
    let h : ℕ → ℕ = λ j. gf_add (f j) (g j) in
    let change : gf_sum n h ≡ d =
    gf_sum-one n h c within (λ j l other. ap (gf_add (f j)) (elsewhere j l other) ∙ gf_add_self (f j))
    ∙ ap (gf_add (f c)) here ∙ gf_add_cancel_left (f c) d in
    gf_sum-congruence n g (λ j. gf_add (f j) (h j)) (λ j l. sym (gf_add_cancel_left (f j) (g j)))
    ∙ gf_sum-gf_add n f h ∙ ap (gf_add (gf_sum n f)) change

-- the value of a row in which one entry has this added
row_value-set : (m : Grid) (r c e : ℕ) (x : ℕ → ℕ) → IsMatrix m → r < length m.rows → c < m.cols
    → row_value (with_matrix_row m r (set (matrix_row m r) c (gf_add (matrix_entry m r c) e))) x r ≡ gf_add (row_value m x r) (gf_mul e (x c))
row_value-set m r c e x matrix row column =
    let old : List ℕ = matrix_row m r in
    let value : ℕ = gf_add (get_or old c 0) e in
    let new : List ℕ = set old c value in
    let long : length old ≡ m.cols = matrix.widths r [] row in
    let same : matrix_row (with_matrix_row m r new) r ≡ new = matrix_row-with_matrix_row_same m r new row in
    gf_sum-changed m.cols c (gf_mul e (x c)) (λ j. gf_mul (get_or old j 0) (x j))
    (λ j. gf_mul (matrix_entry (with_matrix_row m r new) r j) (x j)) column
    (ap (λ (y : ℕ). gf_mul y (x c)) (ap (λ (ys : List ℕ). get_or ys c 0) same ∙ get_or-set_same old c value 0 (omega arith))
    ∙ gf_mul-gf_add_left (get_or old c 0) e (x c))
    (λ j l other. ap (λ (y : ℕ). gf_mul y (x j)) (ap (λ (ys : List ℕ). get_or ys j 0) same ∙ get_or-set_other old c j value 0 other))

-- another row changes no value
row_value-other : (m : Grid) (r i : ℕ) (row : List ℕ) (x : ℕ → ℕ) → i ≢ r → row_value (with_matrix_row m r row) x i ≡ row_value m x i
row_value-other m r i row x other =
    ap (λ (ys : List ℕ). gf_sum m.cols (λ j. gf_mul (get_or ys j 0) (x j))) (matrix_row-with_matrix_row_other m r i row other)

pub Sets-add_entry : (m n : Grid) (row c factor entry : ℕ) → IsMatrix m → IsMatrix n → row < length m.rows → c < m.cols
    → entry ≡ gf_add (matrix_entry m row c) factor → n ≡ with_matrix_row m row (set (matrix_row m row) c entry) → (p : List Op)
    → Sets row m n p p (λ column values. gf_add (part m p column values row) (gf_mul factor (values c)))
Sets-add_entry m n row c factor entry matrix after within below sum changed p =
    let new : List ℕ = set (matrix_row m row) c (gf_add (matrix_entry m row c) factor) in
    let is : n ≡ with_matrix_row m row new = changed ∙ ap (λ (y : ℕ). with_matrix_row m row (set (matrix_row m row) c y)) sum in
    let rows : length n.rows ≡ length m.rows = ap (λ (g : Grid). length g.rows) is ∙ length-with_matrix_row m row new in
    record {
      keeps = record { matrix = after; cols = ap (λ (g : Grid). g.cols) is; rows = rows; fits = λ fits. fits };
      here = λ column values are.
          let byte : ℕ = get_or (plan_on_column p column) row 0 in
          ap (gf_add byte) (ap (λ (g : Grid). row_value g values row) is ∙ row_value-set m row c factor values matrix within below)
          ∙ sym (gf_add_assoc byte (row_value m values row) (gf_mul factor (values c)));
      others = λ column values are r other.
          ap (gf_add (get_or (plan_on_column p column) r 0))
          (ap (λ (g : Grid). row_value g values r) is ∙ row_value-other m row r new values other);
    }

-- ---- the terms of known symbols

known_term-zero : (known : Bool) (value : ℕ) → known_term known 0 value ≡ 0
known_term-zero true value = zero-gf_mul value
known_term-zero false value = refl

pub known_term-same : (known : Bool) (factor x y : ℕ) → (known ≡ true → x ≡ y) → known_term known factor x ≡ known_term known factor y
known_term-same true factor x y same = ap (gf_mul factor) (same refl)
known_term-same false factor x y same = refl

pub Sets-no_factor : (row : ℕ) (m : Grid) (p : List Op) (factor : ℕ) (place : Place) (known : Bool) → IsMatrix m → factor ≡ 0
    → Sets row m m p p (λ column values. gf_add (part m p column values row) (known_term known factor (place_value m p column values place)))
Sets-no_factor row m p factor place known matrix is =
    Sets-none row m p (λ column values. gf_add (part m p column values row) (known_term known factor (place_value m p column values place))) matrix
    (λ column values.
    sym (ap (λ (f : ℕ). gf_add (part m p column values row) (known_term known f (place_value m p column values place))) is
    ∙ ap (gf_add (part m p column values row)) (known_term-zero known (place_value m p column values place))
    ∙ gf_add-zero (part m p column values row)))

pub Sets-known : {row : ℕ} {m n : Grid} {p q : List Op} (factor : ℕ) (place : Place) (known : Bool) → known ≡ true
    → Sets row m n p q (λ column values. gf_add (part m p column values row) (gf_mul factor (place_value m p column values place)))
    → Sets row m n p q (λ column values. gf_add (part m p column values row) (known_term known factor (place_value m p column values place)))
Sets-known {row} {m} {n} {p} {q} factor place known is sets =
    Sets-given (λ column values. gf_add (part m p column values row) (gf_mul factor (place_value m p column values place)))
    (λ column values. gf_add (part m p column values row) (known_term known factor (place_value m p column values place))) sets
    (λ column values are.
    sym (ap (λ (b : Bool). gf_add (part m p column values row) (known_term b factor (place_value m p column values place))) is))

place_value-apart : {row : ℕ} {m n : Grid} {p q : List Op} {f : List ℕ → (ℕ → ℕ) → ℕ} (column : List ℕ) (values : ℕ → ℕ) (place : Place)
    → Sets row m n p q f → AreValuesOf m column values → IsApart m row place
    → place_value n q column values place ≡ place_value m p column values place
place_value-apart column values (Row r) sets are apart = sets.others column values are r (λ e. apart.1 (sym e))
place_value-apart column values (Column j) sets are apart = refl

pub Sets-no_terms : (local : Local) (row i : ℕ) (places : List Place) (known : List Bool) (m : Grid) (p : List Op) → IsMatrix m
    → Sets row m m p p (with_terms 0 local row i places known m p)
Sets-no_terms local row i places known m p matrix =
    Sets-none row m p (with_terms 0 local row i places known m p) matrix
    (λ column values.
    sym (ap (gf_add (part m p column values row)) (gf_sum-zero (contributor_term local i places known m p column values))
    ∙ gf_add-zero (part m p column values row)))

-- one more contributor's term
pub Sets-more_terms : (local : Local) (k row i factor : ℕ) (places : List Place) (known : List Bool) (place : Place) (is_known : Bool)
    (m n o : Grid) (p q r : List Op) → Sets row m n p q (with_terms k local row i places known m p)
    → Sets row n o q r (λ column values. gf_add (part n q column values row) (known_term is_known factor (place_value n q column values place)))
    → factor ≡ matrix_entry local.matrix i k → is_known ≡ is_in known (contributor_of local.batch k)
    → place ≡ place_of places (contributor_of local.batch k) → contributor_of local.batch k < length places
    → ArePlacesApart m row places known → Sets row m o p r (with_terms (k + 1) local row i places known m p)
Sets-more_terms local k row i factor places known place is_known m n o p q r before next factor_is known_is place_is below apart =
    let s : ℕ = contributor_of local.batch k in
    record {
      keeps = Keeps-then before.keeps next.keeps;
      here = λ column values are.
          let old : ℕ = part m p column values row in
          let term : ℕ → ℕ = contributor_term local i places known m p column values in
          let value : known_term is_known factor (place_value n q column values place) ≡ term k =
          ap (λ (b : Bool). known_term b factor (place_value n q column values place)) known_is
          ∙ ap (λ (f : ℕ). known_term (is_in known s) f (place_value n q column values place)) factor_is
          ∙ ap (λ (t : Place). known_term (is_in known s) (matrix_entry local.matrix i k) (place_value n q column values t)) place_is
          ∙ known_term-same (is_in known s) (matrix_entry local.matrix i k) (place_value n q column values (place_of places s))
          (place_value m p column values (place_of places s))
          (λ is. place_value-apart column values (place_of places s) before are (apart s below is)) in
          next.here column values (AreValuesOf-kept before.keeps are)
          ∙ ap (λ (y : ℕ). gf_add y (known_term is_known factor (place_value n q column values place))) (before.here column values are)
          ∙ ap (gf_add (gf_add old (gf_sum k term))) value
          ∙ gf_add_assoc old (gf_sum k term) (term k)
          ∙ ap (gf_add old) (sym (gf_sum-more k term));
      others = λ column values are t other.
          next.others column values (AreValuesOf-kept before.keeps are) t other ∙ before.others column values are t other;
    }

pub known_count-more : (local : Local) (known : List Bool) (k : ℕ)
    → known_count local known (k + 1) ≡ known_count local known k + (if is_in known (contributor_of local.batch k) then 1 else 0)
unfolding count_true
known_count-more local known k = rw add-one refl

-- ---- several rows

sooner : (first i count r : ℕ) → i ≤ count → r < first ⊎ first + count ≤ r → r < first ⊎ first + i ≤ r
sooner first i count r within (inl before) = inl before
sooner first i count r within (inr after) = inr (omega (arith, within, after))

place_value-beyond : {first i : ℕ} {m n : Grid} {p q : List Op} {g : List ℕ → (ℕ → ℕ) → ℕ → ℕ} (count : ℕ) (column : List ℕ) (values : ℕ → ℕ)
    (place : Place) → i ≤ count → Changes first i m n p q g → AreValuesOf m column values → IsBeyond m first count place
    → place_value n q column values place ≡ place_value m p column values place
place_value-beyond {first} {i} count column values (Row r) within changes are beyond =
    changes.others column values are r (sooner first i count r within beyond.1)
place_value-beyond count column values (Column j) within changes are beyond = refl

-- one more row
Changes-more : (first i : ℕ) (m n o : Grid) (p q r : List Op) (f : List ℕ → (ℕ → ℕ) → ℕ) (g : List ℕ → (ℕ → ℕ) → ℕ → ℕ)
    → Changes first i m n p q g → Sets (first + i) n o q r f
    → ((column : List ℕ) (values : ℕ → ℕ) → AreValuesOf m column values → f column values ≡ g column values i)
    → Changes first (i + 1) m o p r g
Changes-more first i m n o p q r f g before next same = record {
  keeps = Keeps-then before.keeps next.keeps;
  here = λ column values are j within.
      let kept : AreValuesOf n column values = AreValuesOf-kept before.keeps are in
      elim (cases_eq j i) [
        | inl e ↦
            ap (λ (t : ℕ). part o r column values (first + t)) e ∙ next.here column values kept ∙ same column values are
            ∙ ap (g column values) (sym e)
        | inr other ↦
            next.others column values kept (first + j) (λ e. other (omega (arith, e)))
            ∙ before.here column values are j (omega (arith, within, other))
      ];
  others = λ column values are t beyond.
      next.others column values (AreValuesOf-kept before.keeps are) t (not_there t beyond)
      ∙ before.others column values are t (sooner first i (i + 1) t (omega arith) beyond);
}
  where
    not_there : (t : ℕ) → t < first ⊎ first + (i + 1) ≤ t → t ≢ first + i
    not_there t (inl before) e = omega (arith, before, e)
    not_there t (inr after) e = omega (arith, after, e)

-- the terms of one more row of a batch
pub Changes-more_terms : (local : Local) (count i : ℕ) (places : List Place) (known : List Bool) (m n o : Grid) (p q r : List Op)
    → Changes local.first i m n p q (λ column values j. with_terms (degree_of local.batch) local (local.first + j) j places known m p column values)
    → Sets (local.first + i) n o q r (with_terms (degree_of local.batch) local (local.first + i) i places known n q)
    → i < count → IsLocal (length places) local → ArePlacesBeyond m local.first count places known
    → Changes local.first (i + 1) m o p r (λ column values j. with_terms (degree_of local.batch) local (local.first + j) j places known m p column values)
Changes-more_terms local count i places known m n o p q r before next within is beyond =
    let degree : ℕ = degree_of local.batch in
    let row : ℕ = local.first + i in
    Changes-more local.first i m n o p q r (with_terms degree local row i places known n q)
    (λ column values j. with_terms degree local (local.first + j) j places known m p column values) before next
    (λ column values are.
    ap (λ (y : ℕ). gf_add y (gf_sum degree (contributor_term local i places known n q column values)))
    (before.others column values are row (inr (omega arith)))
    ∙ ap (gf_add (part m p column values row))
    (gf_sum-congruence degree (contributor_term local i places known n q column values) (contributor_term local i places known m p column values)
    (λ k h.
    known_term-same (is_in known (contributor_of local.batch k)) (matrix_entry local.matrix i k)
    (place_value n q column values (place_of places (contributor_of local.batch k)))
    (place_value m p column values (place_of places (contributor_of local.batch k)))
    (λ here.
    place_value-beyond count column values (place_of places (contributor_of local.batch k)) (omega (arith, within)) before are
    (beyond (contributor_of local.batch k) (is.below k h) here)))))

-- ---- a batch's own operations

pub length-segment : (m : Grid) (p : List Op) (column : List ℕ) (values : ℕ → ℕ) (first count : ℕ) → length (segment m p column values first count) ≡ count
length-segment m p column values first count = length-map-range_with_len (λ i. part m p column values (first + i)) 0 count

pub get_or-segment : (m : Grid) (p : List Op) (column : List ℕ) (values : ℕ → ℕ) (first count i : ℕ) → i < count
    → get_or (segment m p column values first count) i 0 ≡ part m p column values (first + i)
get_or-segment m p column values first count i within =
    get_or-map-range_with_len (λ i. part m p column values (first + i)) 0 count i i 0 within (omega arith)

-- one row of the segment is set
Changes-set : (first count d : ℕ) (m n : Grid) (p q : List Op) (f : List ℕ → (ℕ → ℕ) → ℕ) (value : List ℕ → ℕ) → Sets (first + d) m n p q f → d < count
    → ((column : List ℕ) (values : ℕ → ℕ) → AreValuesOf m column values → f column values ≡ value (segment m p column values first count))
    → Changes first count m n p q (λ column values i.
    get_or (set (segment m p column values first count) d (value (segment m p column values first count))) i 0)
Changes-set first count d m n p q f value sets within same = record {
  keeps = sets.keeps;
  here = λ column values are i low.
      let old : List ℕ = segment m p column values first count in
      elim (cases_eq i d) [
        | inl e ↦
            ap (λ (t : ℕ). part n q column values (first + t)) e ∙ sets.here column values are ∙ same column values are
            ∙ sym (get_or-set_same old d (value old) 0 (omega (arith, within, length-segment m p column values first count)))
            ∙ ap (λ (t : ℕ). get_or (set old d (value old)) t 0) (sym e)
        | inr other ↦
            sets.others column values are (first + i) (λ e. other (omega (arith, e)))
            ∙ sym (get_or-segment m p column values first count i low)
            ∙ sym (get_or-set_other old d i (value old) 0 other)
      ];
  others = λ column values are r beyond. sets.others column values are r (not_there r beyond);
}
  where
    not_there : (r : ℕ) → r < first ⊎ first + count ≤ r → r ≢ first + d
    not_there r (inl before) e = omega (arith, before, e)
    not_there r (inr after) e = omega (arith, after, within, e)

pub Changes-add_row : (first count dst src factor : ℕ) (m n : Grid) (p q : List Op) → dst < count → src < count
    → Sets (first + dst) m n p q (λ column values. gf_add (part m p column values (first + dst)) (gf_mul factor (part m p column values (first + src))))
    → Changes first count m n p q (λ column values i. get_or (op_on_column (segment m p column values first count) (AddScaled dst src factor)) i 0)
Changes-add_row first count dst src factor m n p q to from sets =
    Changes-set first count dst m n p q
    (λ column values. gf_add (part m p column values (first + dst)) (gf_mul factor (part m p column values (first + src))))
    (λ (ys : List ℕ). gf_add (get_or ys dst 0) (gf_mul factor (get_or ys src 0))) sets to
    (λ column values are.
    ap (λ (y : ℕ). gf_add y (gf_mul factor (part m p column values (first + src)))) (sym (get_or-segment m p column values first count dst to))
    ∙ ap (λ (y : ℕ). gf_add (get_or (segment m p column values first count) dst 0) (gf_mul factor y))
    (sym (get_or-segment m p column values first count src from)))

pub Changes-scale_row : (first count row factor : ℕ) (m n : Grid) (p q : List Op) → row < count
    → Sets (first + row) m n p q (λ column values. gf_mul factor (part m p column values (first + row)))
    → Changes first count m n p q (λ column values i. get_or (op_on_column (segment m p column values first count) (Scale row factor)) i 0)
Changes-scale_row first count row factor m n p q within sets =
    Changes-set first count row m n p q (λ column values. gf_mul factor (part m p column values (first + row)))
    (λ (ys : List ℕ). gf_mul factor (get_or ys row 0)) sets within
    (λ column values are. ap (gf_mul factor) (sym (get_or-segment m p column values first count row within)))

pub Changes-no_ops : (first count : ℕ) (ops : List Op) (m : Grid) (p : List Op) → IsMatrix m
    → Changes first count m m p p (λ column values i. get_or (plan_on_column (take 0 ops) (segment m p column values first count)) i 0)
unfolding plan_on_column
Changes-no_ops first count ops m p matrix = record {
  keeps = Keeps-none m p matrix;
  here = λ column values are i within. sym (get_or-segment m p column values first count i within);
  others = λ column values are r beyond. refl;
}

pub Changes-more_ops : (first count j : ℕ) (ops : List Op) (op : Op) (m n o : Grid) (p q r : List Op) → slice_get ops j ≡ Some op
    → Changes first count m n p q (λ column values i. get_or (plan_on_column (take j ops) (segment m p column values first count)) i 0)
    → Changes first count n o q r (λ column values i. get_or (op_on_column (segment n q column values first count) op) i 0)
    → Changes first count m o p r (λ column values i. get_or (plan_on_column (take (j + 1) ops) (segment m p column values first count)) i 0)
Changes-more_ops first count j ops op m n o p q r at before next =
    let longer : take (j + 1) ops ≡ take j ops ++ op ∷ [] =
    take_more ops j op (slice_get_within ops j op at) ∙ ap (λ (x : Op). take j ops ++ x ∷ []) (get_or_from_slice_get ops j op op at) in
    record {
      keeps = Keeps-then before.keeps next.keeps;
      here = λ column values are i within.
          let old : List ℕ = segment m p column values first count in
          let middle : segment n q column values first count ≡ plan_on_column (take j ops) old =
          ext_get_or 0 (segment n q column values first count) (plan_on_column (take j ops) old)
          (length-segment n q column values first count
          ∙ sym (length-plan_on_column (take j ops) old ∙ length-segment m p column values first count))
          (λ t low.
          let below : t < count = omega (arith, low, length-segment n q column values first count) in
          get_or-segment n q column values first count t below ∙ before.here column values are t below) in
          next.here column values (AreValuesOf-kept before.keeps are) i within
          ∙ ap (λ (ys : List ℕ). get_or (op_on_column ys op) i 0) middle
          ∙ ap (λ (ys : List ℕ). get_or ys i 0) (sym (ap (λ (xs : List Op). plan_on_column xs old) longer ∙ plan_on_column-push (take j ops) op old));
      others = λ column values are t beyond.
          next.others column values (AreValuesOf-kept before.keeps are) t beyond ∙ before.others column values are t beyond;
    }

-- one of a batch's own operations, by its kind
pub Changes-add_op : (first count dst src factor : ℕ) (op : Op) (m n : Grid) (p q : List Op) → op ≡ AddScaled dst src factor → FitsRows count op
    → Sets (first + dst) m n p q (λ column values. gf_add (part m p column values (first + dst)) (gf_mul factor (part m p column values (first + src))))
    → Changes first count m n p q (λ column values i. get_or (op_on_column (segment m p column values first count) op) i 0)
Changes-add_op first count dst src factor op m n p q is fits sets =
    let fit : FitsRows count (AddScaled dst src factor) = subst (FitsRows count) is fits in
    subst (λ (o : Op). Changes first count m n p q (λ column values i. get_or (op_on_column (segment m p column values first count) o) i 0)) (sym is)
    (Changes-add_row first count dst src factor m n p q fit.0 fit.1 sets)

pub Changes-scale_op : (first count row factor : ℕ) (op : Op) (m n : Grid) (p q : List Op) → op ≡ Scale row factor → FitsRows count op
    → Sets (first + row) m n p q (λ column values. gf_mul factor (part m p column values (first + row)))
    → Changes first count m n p q (λ column values i. get_or (op_on_column (segment m p column values first count) op) i 0)
Changes-scale_op first count row factor op m n p q is fits sets =
    subst (λ (o : Op). Changes first count m n p q (λ column values i. get_or (op_on_column (segment m p column values first count) o) i 0)) (sym is)
    (Changes-scale_row first count row factor m n p q (subst (FitsRows count) is fits) sets)

-- a known symbol at a column
pub Sets-known_column : {row : ℕ} {m n : Grid} {p q : List Op} (factor j : ℕ) (place : Place) (known : Bool) → place ≡ Column j → known ≡ true
    → Sets row m n p q (λ column values. gf_add (part m p column values row) (gf_mul factor (values j)))
    → Sets row m n p q (λ column values. gf_add (part m p column values row) (known_term known factor (place_value m p column values place)))
Sets-known_column {row} {m} {n} {p} {q} factor j place known is_place is sets =
    Sets-known factor place known is
    (subst (λ (t : Place). Sets row m n p q (λ column values. gf_add (part m p column values row) (gf_mul factor (place_value m p column values t)))) (sym is_place) sets)

-- one change of some rows after another
pub Changes-then : {first count : ℕ} {m n o : Grid} {p q r : List Op} {f g : List ℕ → (ℕ → ℕ) → ℕ → ℕ} → Changes first count m n p q f
    → Changes first count n o q r g → Changes first count m o p r g
Changes-then before next = record {
  keeps = Keeps-then before.keeps next.keeps;
  here = λ column values are i within. next.here column values (AreValuesOf-kept before.keeps are) i within;
  others = λ column values are t beyond.
      next.others column values (AreValuesOf-kept before.keeps are) t beyond ∙ before.others column values are t beyond;
}

-- ---- counts of known contributors

pub count_true-le : (n : ℕ) (test : ℕ → Bool) → count_true n test ≤ n
unfolding count_true
count_true-le zero test = omega arith
count_true-le (suc n) test = omega (arith, count_true-le n test, at_most (test n))
  where
    at_most : (b : Bool) → (if b then 1 else 0) ≤ 1
    at_most true = omega arith
    at_most false = omega arith

count_true-same : (n : ℕ) (f g : ℕ → Bool) → ((k : ℕ) → k < n → f k ≡ g k) → count_true n f ≡ count_true n g
unfolding count_true
count_true-same zero f g same = refl
count_true-same (suc n) f g same =
    let one : Bool → ℕ = λ b. if b then 1 else 0 in
    omega (arith, count_true-same n f g (λ k h. same k (omega (arith, h))), ap one (same n (omega arith)))

-- one more place at which the test holds
count_true-raised : (n k : ℕ) (f g : ℕ → Bool) → k < n → f k ≡ false → g k ≡ true → ((j : ℕ) → j ≢ k → g j ≡ f j) → count_true n g ≡ count_true n f + 1
unfolding count_true
count_true-raised zero k f g within was now others = absurd (omega (arith, within))
count_true-raised (suc n) k f g within was now others =
    let one : Bool → ℕ = λ b. if b then 1 else 0 in
    elim (cases_eq n k) [
      | inl e ↦
          let same : count_true n g ≡ count_true n f = count_true-same n g f (λ j h. others j (λ is. omega (arith, h, is, e))) in
          let one_now : one (g n) ≡ 1 = ap one (ap g e ∙ now) in
          let none_then : one (f n) ≡ 0 = ap one (ap f e ∙ was) in
          omega (arith, same, one_now, none_then)
      | inr other ↦
          let before : count_true n g ≡ count_true n f + 1 = count_true-raised n k f g (omega (arith, within, other)) was now others in
          let same : one (g n) ≡ one (f n) = ap one (others n other) in
          omega (arith, before, same)
    ]

-- distinct places at which the test doesn't hold
pub count_true-others : (n : ℕ) (test : ℕ → Bool) (ks : List ℕ) → All (λ k. k < n) ks → AllPairs (λ a b. a ≢ b) ks → All (λ k. test k ≡ false) ks
    → count_true n test + length ks ≤ n
count_true-others n test [] below once fails = omega (arith, count_true-le n test)
count_true-others n test (k ∷ ks) below once fails =
    let raised : ℕ → Bool = λ j. if j == k then true else test j in
    let at : raised k ≡ true = ap (λ (b : Bool). if b then true else test k) (eq-eqb k k refl) in
    let others : (j : ℕ) → j ≢ k → raised j ≡ test j =
    λ j other. ap (λ (b : Bool). if b then true else test j) (false_from_ne_true (j == k) (λ e. other (eqb-true j k e))) in
    let more : count_true n raised ≡ count_true n test + 1 =
    count_true-raised n k test raised (All-head (λ k. k < n) k ks below) (All-head (λ k. test k ≡ false) k ks fails) at others in
    let rest : count_true n raised + length ks ≤ n =
    count_true-others n raised ks (All-tail (λ k. k < n) k ks below) (λ i j d before within. once (suc i) (suc j) d (omega (arith, before)) (omega (arith, within)))
    (λ i d h.
    others (get_or ks i d) (λ e. once 0 (suc i) d (omega arith) (omega (arith, h)) (sym e)) ∙ All-tail (λ k. test k ≡ false) k ks fails i d h) in
    omega (arith, more, rest)

-- a sum whose terms are 0 but at some places
pub gf_sum-places : (n : ℕ) (f : ℕ → ℕ) (ks : List ℕ) → All (λ k. k < n) ks → AllPairs (λ a b. a ≢ b) ks → ((k : ℕ) → k < n → ¬ Contains ks k → f k ≡ 0)
    → gf_sum n f ≡ gf_sum (length ks) (λ i. f (get_or ks i 0))
gf_sum-places n f [] below once zeros =
    gf_sum-zeros n f (λ k h. zeros k h (λ has. omega (arith, has.1))) ∙ sym (gf_sum-zero (λ i. f 0))
gf_sum-places n f (k ∷ ks) below once zeros =
    let other_than : (i d : ℕ) → i < length ks → get_or ks i d ≢ k =
    λ i d h e. once 0 (suc i) d (omega arith) (omega (arith, h)) (sym e) in
    let rest : ℕ → ℕ = λ j. if j == k then 0 else f j in
    let at : rest k ≡ 0 = ap (λ (b : Bool). if b then 0 else f k) (eq-eqb k k refl) in
    let elsewhere : (j : ℕ) → j ≢ k → rest j ≡ f j =
    λ j other. ap (λ (b : Bool). if b then 0 else f j) (false_from_ne_true (j == k) (λ e. other (eqb-true j k e))) in
    let apart : gf_sum n f ≡ gf_add (gf_sum n rest) (f k) =
    gf_sum-changed n k (f k) rest f (All-head (λ k. k < n) k ks below) (sym (ap (λ (y : ℕ). gf_add y (f k)) at ∙ zero-gf_add (f k)))
    (λ j h other. sym (elsewhere j other)) in
    let inner : gf_sum n rest ≡ gf_sum (length ks) (λ i. rest (get_or ks i 0)) =
    gf_sum-places n rest ks (All-tail (λ k. k < n) k ks below) (λ i j d before within. once (suc i) (suc j) d (omega (arith, before)) (omega (arith, within)))
    (λ j h none.
    elim (cases_eq j k) [
      | inl e ↦ ap rest e ∙ at
      | inr other ↦ elsewhere j other ∙ zeros j h (λ has. not_both j has none other)
    ]) in
    apart ∙ ap (λ (y : ℕ). gf_add y (f k))
    (inner ∙ gf_sum-congruence (length ks) (λ i. rest (get_or ks i 0)) (λ i. f (get_or ks i 0)) (λ i h. elsewhere (get_or ks i 0) (other_than i 0 h)))
    ∙ gf_add_comm (gf_sum (length ks) (λ i. f (get_or ks i 0))) (f k)
    ∙ sym (gf_sum-first (length ks) (λ i. f (get_or (k ∷ ks) i 0)))
  where
    not_both : (j : ℕ) → Contains (k ∷ ks) j → ¬ Contains ks j → j ≢ k → ⊥
    not_both j (zero, h, e) none other = other (sym e)
    not_both j (suc i, h, e) none other = none (i, omega (arith, h), e)
