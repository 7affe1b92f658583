-- Elimination of a row by triangular rows, one after another, and the multiple that is 1 at a place.
use Rattle.std.proofs.Common.{ℕ, ◌≡◌, ◌<◌, ◌+◌, ◌∙◌, List, [], length, get_or, take, sym, ap, subst, arith, lit<}
use Rattle.std.proofs.lemmas.List.{length-take, get_or-take}
use Rattle.std.proofs.lemmas.List.Elements.{All-nil, All-more, All-from_get_or}
use Rattle.gf_core.specs.Bytes.{AreBytes}
use Rattle.gf_core.specs.Field.{gf_add, gf_mul}
use Rattle.gf_core.specs.Rows.{row_sum, scaled_row, add_scaled_row}
use Rattle.gf_core.specs.Combinations.{IsInSpan}
use Rattle.gf_core.specs.Triangular.{AreRows, IsZeroAt, AreTriangular}
use Rattle.gf_core.proofs.AddLemmas.{gf_add_self}
use Rattle.gf_core.proofs.ProductLemmas.{gf_mul-zero, gf_mul-one, gf_mul_comm}
use Rattle.gf_core.proofs.RowLemmas.{byte_at, length-add_scaled_row, length-scaled_row, get_or-add_scaled_row, get_or-scaled_row, add_scaled_row-lt, row_sum_self, scaled_row-one, scaled_row-gf_mul}
use Rattle.gf_core.proofs.CombinationLemmas.{row_sum_right_comm, IsInSpan-zeros, IsInSpan-add_scaled, IsInSpan-each, pivot-lt}
use Rattle.bats_batch.specs.steps.Reduction.{Reduces, IsNormalized}

-- ---- a row is reduced by the rows before i

pub Reduces-none : (rows : List (List ℕ)) (row : List ℕ) → AreBytes row → Reduces (length row) rows [] row row
Reduces-none rows row bytes = record {
  size = λ i. length row;
  bytes = bytes;
  added = subst (IsInSpan (length row) rows) (sym (row_sum_self row)) (IsInSpan-zeros (length row) rows);
  cleared = All-nil (λ pivot. get_or row pivot 0 ≡ 0);
}

module _ (width : ℕ) (rows : List (List ℕ)) (pivots : List ℕ) (old new : List ℕ) (i : ℕ) (are : AreRows width rows) (triangular : AreTriangular pivots rows)
    (size : length old ≡ width) (inside : i < length rows) (state : Reduces width rows (take i pivots) old new) where
  abbrev source : List ℕ
  source = get_or rows i []

  abbrev factor : ℕ
  factor = get_or new (get_or pivots i 0) 0

  abbrev next : List ℕ
  next = add_scaled_row new factor source

  width-source : length source ≡ width
  width-source = are.widths i [] inside

  below : (k : ℕ) → k < length rows → get_or pivots k 0 < length new
  below k h = subst (λ n. get_or pivots k 0 < n) (are.widths k [] h ∙ sym state.size) (pivot-lt pivots rows k triangular h)

  entry : (k : ℕ) → k < length rows → get_or next (get_or pivots k 0) 0 ≡ gf_add (get_or new (get_or pivots k 0) 0) (gf_mul factor (get_or source (get_or pivots k 0) 0))
  entry k h = get_or-add_scaled_row new factor source (get_or pivots k 0) (below k h)

  here : get_or next (get_or pivots i 0) 0 ≡ 0
  here =
      entry i inside ∙
      (ap (λ x. gf_add (get_or new (get_or pivots i 0) 0) (gf_mul (get_or new (get_or pivots i 0) 0) x)) (triangular.ones i inside) ∙
      (ap (gf_add (get_or new (get_or pivots i 0) 0)) (gf_mul-one (get_or new (get_or pivots i 0) 0) (byte_at new (get_or pivots i 0) state.bytes)) ∙
      gf_add_self (get_or new (get_or pivots i 0) 0)))

  earlier : (k : ℕ) → k < i → get_or next (get_or pivots k 0) 0 ≡ 0
  earlier k h =
      entry k (omega arith) ∙
      (ap (λ x. gf_add (get_or new (get_or pivots k 0) 0) (gf_mul factor x)) (triangular.later k i h inside) ∙
      (ap (gf_add (get_or new (get_or pivots k 0) 0)) (gf_mul-zero factor) ∙
      (ap (λ x. gf_add x 0) zero_before)))
    where
      zero_before : get_or new (get_or pivots k 0) 0 ≡ 0
      zero_before =
          ap (λ (p : ℕ). get_or new p 0) (sym (get_or-take i pivots k 0 h)) ∙
          state.cleared k 0 (omega (arith, length-take i pivots, triangular.sizes))

  cleared-next : IsZeroAt (take (i + 1) pivots) next
  cleared-next =
      All-more (λ pivot. get_or next pivot 0 ≡ 0) pivots i 0 (omega (arith, triangular.sizes))
      (All-from_get_or (λ pivot. get_or next pivot 0 ≡ 0) (take i pivots) 0
      (λ k h. let before : k < i = omega (arith, length-take i pivots) in
      ap (λ (p : ℕ). get_or next p 0) (get_or-take i pivots k 0 before) ∙ earlier k before))
      here

  added-next : IsInSpan width rows (row_sum next old)
  added-next =
      subst (IsInSpan width rows)
      (row_sum_right_comm new old (scaled_row factor source) (size ∙ sym width-source ∙ sym (length-scaled_row factor source)))
      (IsInSpan-add_scaled width rows (row_sum new old) factor source are state.added in_span)
    where
      in_span : IsInSpan width rows source
      in_span = IsInSpan-each width rows are.widths i [] inside

  -- one more row
  Reduces-next : Reduces width rows (take (i + 1) pivots) old next
  Reduces-next = record {
    size = length-add_scaled_row new factor source ∙ state.size;
    bytes = add_scaled_row-lt new factor source state.bytes source-bytes;
    added = added-next;
    cleared = cleared-next;
  }
    where
      source-bytes : AreBytes source
      source-bytes = are.bytes i [] inside

-- one more row
pub Reduces-more : (width : ℕ) (rows : List (List ℕ)) (pivots old new : List ℕ) (i : ℕ) → AreRows width rows → AreTriangular pivots rows → length old ≡ width → i < length rows
    → Reduces width rows (take i pivots) old new
    → Reduces width rows (take (i + 1) pivots) old (add_scaled_row new (get_or new (get_or pivots i 0) 0) (get_or rows i []))
Reduces-more width rows pivots old new i are triangular size inside state = Reduces-next width rows pivots old new i are triangular size inside state

-- ---- a row is made 1 at a place

pub IsNormalized-same : (pivot : ℕ) (row : List ℕ) → get_or row pivot 0 ≡ 1 → IsNormalized pivot row row
IsNormalized-same pivot row one = record {
  factor = 1;
  byte = lit< tt;
  multiple = sym (scaled_row-one row);
  back = sym (ap (λ f. scaled_row f row) one ∙ scaled_row-one row);
  one = one;
}

pub IsNormalized-scaled : (pivot : ℕ) (row : List ℕ) (factor : ℕ) → AreBytes row → factor < 256 → gf_mul (get_or row pivot 0) factor ≡ 1 → IsNormalized pivot row (scaled_row factor row)
IsNormalized-scaled pivot row factor bytes below product = record {
  factor = factor;
  byte = below;
  multiple = λ i. scaled_row factor row;
  back = sym (sym (scaled_row-gf_mul (get_or row pivot 0) factor row below bytes) ∙ (ap (λ f. scaled_row f row) product ∙ scaled_row-one row));
  one = get_or-scaled_row factor row pivot ∙ (gf_mul_comm factor (get_or row pivot 0) below (byte_at row pivot bytes) ∙ product);
}

-- the same with the row and its width by other names
pub Reduces-from : (width : ℕ) (rows : List (List ℕ)) (pivots row old new : List ℕ) → old ≡ row → length row ≡ width
    → Reduces (length old) rows pivots old new → Reduces width rows pivots row new
Reduces-from width rows pivots row old new same size is =
    subst (λ n. Reduces n rows pivots row new) size (subst (λ (r : List ℕ). Reduces (length r) rows pivots r new) same is)
