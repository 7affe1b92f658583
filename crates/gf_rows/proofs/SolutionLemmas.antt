-- What operations that take from some rows alone keep: the solutions of those rows, and for values that solve them what
-- each row gives. A plan can be undone.
use Rattle.std.proofs.Common.{ℕ, zero, suc, ◌≡◌, ◌≢◌, ◌<◌, ◌∙◌, ◌↔◌, inl, inr, List, [], ◌∷◌, ◌++◌, length, get_or, set, replicate, sym, ap, refl, subst, append_assoc}
use Rattle.std.specs.Prelude.{All, Contains, map}
use Rattle.std.proofs.lemmas.Bool.{cases_lt}
use Rattle.std.proofs.lemmas.List.{append-nil, length-map, get_or-map, get_or_past, get_or-set_same, get_or-set_other, set-get_or}
use Rattle.std.proofs.lemmas.Grind.{fold-append}
use Rattle.std.proofs.lemmas.List.Elements.{All-nil, All-cons, All-head, All-tail, All-append, All-map, All-contains, All-contains_itself, All-weaker}
use Rattle.gf_core.specs.Field.{gf_add, gf_mul, gf_sum}
use Rattle.gf_core.specs.Bytes.{AreBytes}
use Rattle.gf_core.specs.Rows.{row_sum, scaled_row, add_scaled_row}
use Rattle.gf_core.proofs.AddLemmas.{gf_add-zero, gf_add_self, gf_add-eq-zero}
use Rattle.gf_core.proofs.SumLemmas.{gf_sum-lt, gf_sum-zeros}
use Rattle.gf_core.proofs.ProductLemmas.{gf_mul-lt, gf_mul-zero, zero-gf_mul}
use Rattle.gf_core.proofs.InverseLemmas.{gf_mul-eq-zero}
use Rattle.gf_core.proofs.RowLemmas.{byte_at, row_sum-lt, get_or-row_sum_even, row_sum_assoc, row_sum_self, row_sum-replicate_zero, replicate_zero-row_sum}
use Rattle.gf_rows.specs.declared.operation.Op.{Op}
use Rattle.gf_rows.specs.declared.operation.Op.TheVariants.{AddScaled, Scale}
use Rattle.gf_rows.specs.Matrix.{Grid, IsMatrix, matrix_row, with_matrix_row}
use Rattle.gf_rows.specs.Operation.{IsRowOperation, HasByteFactor, FitsRows, op_on_column, op_on_rows}
use Rattle.gf_rows.specs.Plan.{IsPlan, plan_on_column, plan_on_rows}
use Rattle.gf_rows.specs.Performed.{TakesFrom, Performed}
use Rattle.gf_rows.specs.Equations.{AreValues, row_value, Solves, row_result}
use Rattle.gf_rows.proofs.PlanLemmas.{zeros, entry_of_zeros, op_on_column-lt, length-plan_on_column, plan_on_column-lt, plan_on_column-append, plan_on_column-row_sum, length-plan_on_rows}
use Rattle.gf_core.specs.Triangular.{AreRows}
use Rattle.gf_core.proofs.LinearRows.{IsLinear-product}
use Rattle.gf_rows.proofs.LinearLemmas.{AreRows-plan_on_rows, map-plan_on_rows}

-- ---- columns that are 0 at the rows that a plan takes from

-- the column is 0 at each of these rows
pub record IsZeroAt (rows column : List ℕ) : Type 0 where
  pub each : All (λ r. get_or column r 0 ≡ 0) rows

zero_at : {rows column : List ℕ} → IsZeroAt rows column → (r : ℕ) → Contains rows r → get_or column r 0 ≡ 0
zero_at {rows} {column} h r has = All-contains (λ r. get_or column r 0 ≡ 0) rows r h.each has

-- the row that the operation takes from
abbrev source_of : Op → ℕ
source_of (AddScaled dst src factor) = src
source_of (Scale row factor) = row

has_source : (sources : List ℕ) (op : Op) → TakesFrom sources op → Contains sources (source_of op)
has_source sources (AddScaled dst src factor) has = has
has_source sources (Scale row factor) has = has

takes_from : (sources : List ℕ) (op : Op) → Contains sources (source_of op) → TakesFrom sources op
takes_from sources (AddScaled dst src factor) has = has
takes_from sources (Scale row factor) has = has

-- an operation changes nothing where the row that it takes from has a 0
unchanged_at_zero : (column : List ℕ) (op : Op) → get_or column (source_of op) 0 ≡ 0 → op_on_column column op ≡ column
unchanged_at_zero column (AddScaled dst src factor) h =
    ap (λ x. set column dst (gf_add (get_or column dst 0) (gf_mul factor x))) h ∙
    (ap (λ x. set column dst (gf_add (get_or column dst 0) x)) (gf_mul-zero factor) ∙
    (ap (set column dst) (gf_add-zero (get_or column dst 0)) ∙ set-get_or column dst 0))
unchanged_at_zero column (Scale row factor) h =
    ap (λ x. set column row (gf_mul factor x)) h ∙
    (ap (set column row) (gf_mul-zero factor ∙ sym h) ∙ set-get_or column row 0)

-- where that row has a 0 after the operation, it had one before
zero_before : (column : List ℕ) (op : Op) → IsRowOperation op → HasByteFactor op → AreBytes column → get_or (op_on_column column op) (source_of op) 0 ≡ 0 → get_or column (source_of op) 0 ≡ 0
zero_before column (AddScaled dst src factor) rule byte bytes h =
    sym (get_or-set_other column dst src _ 0 (λ e. rule (sym e))) ∙ h
zero_before column (Scale row factor) rule byte bytes h =
    elim (cases_lt row (length column)) [
      | inl within ↦
          elim (gf_mul-eq-zero factor (get_or column row 0) byte (byte_at column row bytes) (sym (get_or-set_same column row (gf_mul factor (get_or column row 0)) 0 within) ∙ h)) [
            | inl e ↦ absurd (rule e)
            | inr e ↦ e
          ]
      | inr past ↦ get_or_past column row 0 past
    ]

-- a plan that takes from these rows leaves the whole column as it is
pub plan-unchanged : (sources : List ℕ) (ops : List Op) (column : List ℕ) → All (TakesFrom sources) ops → IsZeroAt sources column → plan_on_column ops column ≡ column
unfolding plan_on_column
plan-unchanged sources [] column takes h = refl
plan-unchanged sources (op ∷ ops) column takes h =
    let same : op_on_column column op ≡ column = unchanged_at_zero column op (zero_at h (source_of op) (has_source sources op (All-head (TakesFrom sources) op ops takes))) in
    ap (plan_on_column ops) same ∙ plan-unchanged sources ops column (All-tail (TakesFrom sources) op ops takes) h

-- a column that is 0 at these rows after a plan that takes from them was so before it
pub plan-back : (sources : List ℕ) (ops : List Op) (column : List ℕ) → All (TakesFrom sources) ops → IsPlan ops → AreBytes column
    → IsZeroAt sources (plan_on_column ops column) → IsZeroAt sources column
unfolding plan_on_column
plan-back sources [] column takes is bytes h = h
plan-back sources (op ∷ ops) column takes is bytes h =
    let after : IsZeroAt sources (op_on_column column op) =
    plan-back sources ops (op_on_column column op) (All-tail (TakesFrom sources) op ops takes)
    (record { rule = All-tail IsRowOperation op ops is.rule; bytes = All-tail HasByteFactor op ops is.bytes })
    (op_on_column-lt column op bytes) h in
    let source : get_or column (source_of op) 0 ≡ 0 =
    zero_before column op (All-head IsRowOperation op ops is.rule) (All-head HasByteFactor op ops is.bytes) bytes
    (zero_at after (source_of op) (has_source sources op (All-head (TakesFrom sources) op ops takes))) in
    subst (IsZeroAt sources) (unchanged_at_zero column op source) after

-- ---- a plan can be undone

-- the rows that a plan's operations take from
takes_from_its_sources : (ops : List Op) → All (TakesFrom (map source_of ops)) ops
takes_from_its_sources ops = λ k op h.
    takes_from (map source_of ops) (get_or ops k op)
    (subst (Contains (map source_of ops)) (get_or-map source_of ops k op 0 h) (All-contains_itself (map source_of ops) k 0 (rw (length-map ops source_of) h)))

-- rows whose sum is zeros are equal
equal_from_sum : (a b : List ℕ) → length a ≡ length b → row_sum a b ≡ replicate (length a) 0 → a ≡ b
equal_from_sum a b e zeros =
    sym (row_sum-replicate_zero a (length a)) ∙
    (ap (row_sum a) (sym zeros) ∙
    (sym (row_sum_assoc a a b e) ∙
    (ap (λ z. row_sum z b) (row_sum_self a) ∙
    (ap (λ n. row_sum (replicate n 0) b) e ∙ replicate_zero-row_sum b))))

-- columns that are equal after a plan were equal before it
pub plan_on_column-injective : (ops : List Op) (a b : List ℕ) → IsPlan ops → AreBytes a → AreBytes b → length a ≡ length b → plan_on_column ops a ≡ plan_on_column ops b → a ≡ b
plan_on_column-injective ops a b is p q e same =
    let sources = map source_of ops in
    let takes : All (TakesFrom sources) ops = takes_from_its_sources ops in
    let sum : plan_on_column ops (row_sum a b) ≡ replicate (length a) 0 =
    plan_on_column-row_sum ops a b e ∙
    (ap (row_sum (plan_on_column ops a)) (sym same) ∙
    (row_sum_self (plan_on_column ops a) ∙ ap (λ n. replicate n 0) (length-plan_on_column ops a))) in
    let before : IsZeroAt sources (row_sum a b) =
    plan-back sources ops (row_sum a b) takes is (row_sum-lt a b p q)
    (subst (IsZeroAt sources) (sym sum) (record { each = λ k r h. entry_of_zeros (length a) (get_or sources k r) })) in
    equal_from_sum a b e (sym (plan-unchanged sources ops (row_sum a b) takes before) ∙ sum)

-- ---- operations one after another

pub Performed-none : (sources : List ℕ) (m : Grid) (plan : List Op) → Performed sources m m plan plan
unfolding plan_on_rows
Performed-none sources m plan = record {
  ops = [];
  plan = sym (append-nil plan);
  rows = refl;
  cols = refl;
  takes = All-nil (TakesFrom sources);
  is = record { rule = All-nil IsRowOperation; bytes = All-nil HasByteFactor };
  fits = All-nil (FitsRows (length m.rows));
}

one_performed : (sources : List ℕ) (m n : Grid) (before after : List Op) (op : Op) → TakesFrom sources op → IsRowOperation op → HasByteFactor op → FitsRows (length m.rows) op
    → n ≡ record { cols = m.cols; rows = op_on_rows m.rows op } → after ≡ before ++ op ∷ [] → Performed sources m n before after
unfolding plan_on_rows
one_performed sources m n before after op takes rule byte fits changed pushed = record {
  ops = op ∷ [];
  plan = pushed;
  rows = ap (λ (g : Grid). g.rows) changed;
  cols = ap (λ (g : Grid). g.cols) changed;
  takes = All-cons (TakesFrom sources) op [] takes (All-nil (TakesFrom sources));
  is = record { rule = All-cons IsRowOperation op [] rule (All-nil IsRowOperation); bytes = All-cons HasByteFactor op [] byte (All-nil HasByteFactor) };
  fits = All-cons (FitsRows (length m.rows)) op [] fits (All-nil (FitsRows (length m.rows)));
}

-- one sum of rows, in the matrix and at the end of the plan
pub Performed-add_scaled : (sources : List ℕ) (m n : Grid) (before after : List Op) (dst src factor : ℕ) → Contains sources src → dst ≢ src → factor < 256 → dst < length m.rows → src < length m.rows
    → n ≡ with_matrix_row m dst (add_scaled_row (matrix_row m dst) factor (matrix_row m src)) → after ≡ before ++ AddScaled dst src factor ∷ []
    → Performed sources m n before after
Performed-add_scaled sources m n before after dst src factor has apart byte p q changed pushed =
    one_performed sources m n before after (AddScaled dst src factor) has apart byte (p, q) changed pushed

-- one scaling, in the matrix and at the end of the plan
pub Performed-scaled : (sources : List ℕ) (m n : Grid) (before after : List Op) (row factor : ℕ) → Contains sources row → factor ≢ 0 → factor < 256 → row < length m.rows
    → n ≡ with_matrix_row m row (scaled_row factor (matrix_row m row)) → after ≡ before ++ Scale row factor ∷ []
    → Performed sources m n before after
Performed-scaled sources m n before after row factor has nonzero byte p changed pushed =
    one_performed sources m n before after (Scale row factor) has nonzero byte p changed pushed

-- the number of rows stays
pub length-performed : {sources : List ℕ} {old new : Grid} {before after : List Op} → Performed sources old new before after → length new.rows ≡ length old.rows
length-performed {old = old} did = ap length did.rows ∙ length-plan_on_rows did.ops old.rows

-- rows of bytes of one width stay such rows
pub IsMatrix-performed : {sources : List ℕ} {old new : Grid} {before after : List Op} → Performed sources old new before after → IsMatrix old → IsMatrix new
IsMatrix-performed {old = old} {new = new} did is =
    let are : AreRows old.cols (plan_on_rows did.ops old.rows) =
    AreRows-plan_on_rows old.cols did.ops old.rows did.fits (record { widths = is.widths; bytes = is.bytes }) in
    record {
      widths = subst (λ cols. All (λ row. length row ≡ cols) new.rows) (sym did.cols) (subst (All (λ row. length row ≡ old.cols)) (sym did.rows) are.widths);
      bytes = subst (All AreBytes) (sym did.rows) are.bytes;
    }

-- one after another
pub Performed-then : {sources : List ℕ} {a b c : Grid} {p q r : List Op} → Performed sources a b p q → Performed sources b c q r → Performed sources a c p r
unfolding plan_on_rows
Performed-then {sources} {a} {b} {c} {p} first next = record {
  ops = first.ops ++ next.ops;
  plan = next.plan ∙ (ap (λ ops. ops ++ next.ops) first.plan ∙ append_assoc p first.ops next.ops);
  rows = next.rows ∙ (ap (plan_on_rows next.ops) first.rows ∙ sym (fold-append op_on_rows a.rows first.ops next.ops));
  cols = next.cols ∙ first.cols;
  takes = All-append (TakesFrom sources) first.ops next.ops first.takes next.takes;
  is = record { rule = All-append IsRowOperation first.ops next.ops first.is.rule next.is.rule; bytes = All-append HasByteFactor first.ops next.ops first.is.bytes next.is.bytes };
  fits = All-append (FitsRows (length a.rows)) first.ops next.ops first.fits (subst (λ n. All (FitsRows n) next.ops) (length-performed first) next.fits);
}

takes_from_more : (sources more : List ℕ) → ((r : ℕ) → Contains sources r → Contains more r) → (op : Op) → TakesFrom sources op → TakesFrom more op
takes_from_more sources more within (AddScaled dst src factor) has = within src has
takes_from_more sources more within (Scale row factor) has = within row has

-- more rows to take from
pub Performed-weaker : {sources : List ℕ} (more : List ℕ) {old new : Grid} {before after : List Op} → ((r : ℕ) → Contains sources r → Contains more r) → Performed sources old new before after → Performed more old new before after
Performed-weaker {sources} more within did = record {
  ops = did.ops;
  plan = did.plan;
  rows = did.rows;
  cols = did.cols;
  takes = All-weaker (TakesFrom sources) (TakesFrom more) (takes_from_more sources more within) did.ops did.takes;
  is = did.is;
  fits = did.fits;
}

-- ---- solutions

-- the sum of a row's entries, each times the value of its unknown
abbrev product : ℕ → (ℕ → ℕ) → List ℕ → ℕ
product cols values row = gf_sum cols (λ j. gf_mul (get_or row j 0) (values j))

-- what each row gives, as a column
abbrev pub results : Grid → List ℕ → (ℕ → ℕ) → List ℕ
results m column values = row_sum column (map (product m.cols values) m.rows)

product_of_none : (cols : ℕ) (values : ℕ → ℕ) → product cols values [] ≡ 0
product_of_none cols values = gf_sum-zeros cols (λ j. gf_mul 0 (values j)) (λ j h. zero-gf_mul (values j))

-- at each row, also past the last
product_of_row : (m : Grid) (values : ℕ → ℕ) (r : ℕ) → get_or (map (product m.cols values) m.rows) r 0 ≡ row_value m values r
product_of_row m values r =
    elim (cases_lt r (length m.rows)) [
      | inl within ↦ get_or-map (product m.cols values) m.rows r [] 0 within
      | inr past ↦
          get_or_past (map (product m.cols values) m.rows) r 0 (rw (length-map m.rows (product m.cols values)) past) ∙
          sym (ap (product m.cols values) (get_or_past m.rows r [] past) ∙ product_of_none m.cols values)
    ]

pub get_or-results : (m : Grid) (column : List ℕ) (values : ℕ → ℕ) (r : ℕ) → length column ≡ length m.rows → get_or (results m column values) r 0 ≡ row_result m column values r
get_or-results m column values r e =
    get_or-row_sum_even column (map (product m.cols values) m.rows) r (e ∙ sym (length-map m.rows (product m.cols values))) ∙
    ap (gf_add (get_or column r 0)) (product_of_row m values r)

results-lt : (m : Grid) (column : List ℕ) (values : ℕ → ℕ) → AreBytes column → AreValues m.cols values → AreBytes (results m column values)
results-lt m column values bytes below =
    row_sum-lt column (map (product m.cols values) m.rows) bytes
    (All-map (λ byte. byte < 256) (product m.cols values) m.rows
    (λ k row h. gf_sum-lt m.cols (λ j. gf_mul (get_or (get_or m.rows k row) j 0) (values j)) (λ j p. gf_mul-lt (get_or (get_or m.rows k row) j 0) (values j) (below j p))))

-- values solve rows exactly where what these rows give is 0
zero_from_solves : (m : Grid) (column rows : List ℕ) (values : ℕ → ℕ) → length column ≡ length m.rows → Solves m column rows values → IsZeroAt rows (results m column values)
zero_from_solves m column rows values e solves = record {
  each =
      All-weaker (λ r. get_or column r 0 ≡ row_value m values r) (λ r. get_or (results m column values) r 0 ≡ 0)
      (λ r h. get_or-results m column values r e ∙ (ap (λ x. gf_add x (row_value m values r)) h ∙ gf_add_self (row_value m values r))) rows solves.each;
}

solves_from_zero : (m : Grid) (column rows : List ℕ) (values : ℕ → ℕ) → length column ≡ length m.rows → IsZeroAt rows (results m column values) → Solves m column rows values
solves_from_zero m column rows values e zeros = record {
  each =
      All-weaker (λ r. get_or (results m column values) r 0 ≡ 0) (λ r. get_or column r 0 ≡ row_value m values r)
      (λ r h. gf_add-eq-zero (get_or column r 0) (row_value m values r) (sym (get_or-results m column values r e) ∙ h)) rows zeros.each;
}

-- the operations do to what the rows give what they do to a column
pub results-performed : {sources : List ℕ} {old new : Grid} {before after : List Op} (column : List ℕ) (values : ℕ → ℕ) (did : Performed sources old new before after)
    → IsMatrix old → length column ≡ length old.rows → AreValues old.cols values
    → results new (plan_on_column after column) values ≡ plan_on_column did.ops (results old (plan_on_column before column) values)
results-performed {old = old} {new = new} {before = before} {after = after} column values did is e below =
    let h = product old.cols values in
    let cols : results new (plan_on_column after column) values ≡ row_sum (plan_on_column after column) (map h new.rows) =
    ap (λ cols. row_sum (plan_on_column after column) (map (product cols values) new.rows)) did.cols in
    let rows : map h new.rows ≡ plan_on_column did.ops (map h old.rows) =
    ap (map h) did.rows ∙ map-plan_on_rows h old.cols did.ops old.rows (IsLinear-product old.cols values below) did.fits (record { widths = is.widths; bytes = is.bytes }) in
    let column_after : plan_on_column after column ≡ plan_on_column did.ops (plan_on_column before column) =
    ap (λ plan. plan_on_column plan column) did.plan ∙ plan_on_column-append before did.ops column in
    cols ∙
    (ap (row_sum (plan_on_column after column)) rows ∙
    (ap (λ c. row_sum c (plan_on_column did.ops (map h old.rows))) column_after ∙
    sym (plan_on_column-row_sum did.ops (plan_on_column before column) (map h old.rows) (length-plan_on_column before column ∙ (e ∙ sym (length-map old.rows h))))))

-- where values solve the rows that the operations take from, what the rows give is the same before and after
results_same : {sources : List ℕ} {old new : Grid} {before after : List Op} (column : List ℕ) (values : ℕ → ℕ) → Performed sources old new before after
    → IsMatrix old → length column ≡ length old.rows → AreValues old.cols values → Solves old (plan_on_column before column) sources values
    → results new (plan_on_column after column) values ≡ results old (plan_on_column before column) values
results_same {sources} {old} {before = before} column values did is e below solves =
    results-performed column values did is e below ∙
    plan-unchanged sources did.ops (results old (plan_on_column before column) values) did.takes
    (zero_from_solves old (plan_on_column before column) sources values (length-plan_on_column before column ∙ e) solves)

-- operations that take from some rows keep the solutions of these rows
pub Solves-performed : {sources : List ℕ} {old new : Grid} {before after : List Op} (column : List ℕ) (values : ℕ → ℕ) → Performed sources old new before after
    → IsMatrix old → length column ≡ length old.rows → AreBytes column → AreValues old.cols values
    → Solves old (plan_on_column before column) sources values ↔ Solves new (plan_on_column after column) sources values
Solves-performed {sources} {old} {new} {before} {after} column values did is e bytes below =
    let old_rows : length (plan_on_column before column) ≡ length old.rows = length-plan_on_column before column ∙ e in
    let new_rows : length (plan_on_column after column) ≡ length new.rows = length-plan_on_column after column ∙ (e ∙ sym (length-performed did)) in (
      (λ solves.
          solves_from_zero new (plan_on_column after column) sources values new_rows
          (subst (IsZeroAt sources) (sym (results_same column values did is e below solves))
          (zero_from_solves old (plan_on_column before column) sources values old_rows solves))),
      (λ solves.
          solves_from_zero old (plan_on_column before column) sources values old_rows
          (plan-back sources did.ops (results old (plan_on_column before column) values) did.takes did.is
          (results-lt old (plan_on_column before column) values (plan_on_column-lt before column bytes) below)
          (subst (IsZeroAt sources) (results-performed column values did is e below)
          (zero_from_solves new (plan_on_column after column) sources values new_rows solves)))),
    )

-- where the values solve these rows, each row gives the same before and after
pub row_result-performed : {sources : List ℕ} {old new : Grid} {before after : List Op} (column : List ℕ) (values : ℕ → ℕ) (r : ℕ) → Performed sources old new before after
    → IsMatrix old → length column ≡ length old.rows → AreValues old.cols values → Solves old (plan_on_column before column) sources values
    → row_result new (plan_on_column after column) values r ≡ row_result old (plan_on_column before column) values r
row_result-performed {old = old} {new = new} {before = before} {after = after} column values r did is e below solves =
    sym (get_or-results new (plan_on_column after column) values r (length-plan_on_column after column ∙ (e ∙ sym (length-performed did)))) ∙
    (ap (λ c. get_or c r 0) (results_same column values did is e below solves) ∙
    get_or-results old (plan_on_column before column) values r (length-plan_on_column before column ∙ e))
