-- Combinations of rows, what some rows span, what a linear function makes of both, and triangular rows.
use Rattle.std.proofs.Common.{ℕ, zero, suc, ◌≡◌, ◌<◌, ◌≤◌, ◌+◌, ◌∙◌, List, [], ◌∷◌, ◌++◌, length, get_or, take, map, replicate, sym, ap, subst, refl, arith, inl, inr, lit<}
use Rattle.std.specs.Prelude.{All}
use Rattle.std.proofs.lemmas.List.{length-map, length-replicate, take-replicate, take-map, length_push, get_or-replicate, get_or_past, get_or_append_left, get_or_push}
use Rattle.std.proofs.lemmas.List.Elements.{All-nil, All-cons, All-head, All-tail, All-push, All-replicate, All-weaker, All-from_get_or}
use Rattle.std.proofs.lemmas.Bool.{cases_lt}
use Rattle.gf_core.specs.Bytes.{AreBytes}
use Rattle.gf_core.specs.Field.{gf_add, gf_mul, gf_sum}
use Rattle.gf_core.specs.Rows.{row_sum, scaled_row, add_scaled_row}
use Rattle.gf_core.specs.Combinations.{combination, IsInSpan}
use Rattle.gf_core.specs.Triangular.{AreRows, IsZeroAt, AreTriangular}
use Rattle.gf_core.proofs.AddLemmas.{zero-gf_add, gf_add_comm}
use Rattle.gf_core.proofs.SumLemmas.{gf_sum-zero, gf_sum-zeros, gf_sum-first}
use Rattle.gf_core.proofs.ProductLemmas.{zero-gf_mul, gf_mul-zero, gf_mul-one}
use Rattle.gf_core.proofs.RowLemmas.{length-row_sum, length-scaled_row, length-add_scaled_row, get_or-add_scaled_row, add_scaled_row-lt, scaled_row-lt, row_sum_comm, row_sum_assoc, scaled_row-row_sum, scaled_row-gf_add, scaled_row-gf_mul, scaled_row-one, scaled_row-replicate_zero, row_sum-replicate_zero, replicate_zero-row_sum, add_scaled_row-zero}
use Rattle.gf_core.proofs.LinearRows.{AreRows-tail, IsLinear, IsLinear-zeros, IsLinear-entry}

-- ---- sums of rows

-- two sums of two rows, summed the other way
pub row_sum_row_sum_comm : (a b c d : List ℕ) → length b ≡ length c → length c ≡ length d → row_sum (row_sum a b) (row_sum c d) ≡ row_sum (row_sum a c) (row_sum b d)
row_sum_row_sum_comm a b c d p q =
    row_sum_assoc a b (row_sum c d) (p ∙ sym (length-row_sum c d)) ∙
    (ap (row_sum a) inner ∙ sym (row_sum_assoc a c (row_sum b d) (sym p ∙ sym (length-row_sum b d))))
  where
    inner : row_sum b (row_sum c d) ≡ row_sum c (row_sum b d)
    inner =
        sym (row_sum_assoc b c d q) ∙
        (ap (λ s. row_sum s d) (row_sum_comm b c p) ∙ row_sum_assoc c b d (p ∙ q))

-- the two rows that are added change places
pub row_sum_right_comm : (a b c : List ℕ) → length b ≡ length c → row_sum (row_sum a b) c ≡ row_sum (row_sum a c) b
row_sum_right_comm a b c p =
    row_sum_assoc a b c p ∙ (ap (row_sum a) (row_sum_comm b c p) ∙ sym (row_sum_assoc a c b (sym p)))

pub take-row_sum : (n : ℕ) (xs ys : List ℕ) → take n (row_sum xs ys) ≡ row_sum (take n xs) (take n ys)
unfolding row_sum
take-row_sum zero xs ys = refl
take-row_sum (suc n) [] ys = refl
take-row_sum (suc n) (x ∷ xs) [] = refl
take-row_sum (suc n) (x ∷ xs) (y ∷ ys) = ap (λ zs. gf_add x y ∷ zs) (take-row_sum n xs ys)

pub take-add_scaled_row : (n : ℕ) (dst : List ℕ) (c : ℕ) (src : List ℕ) → take n (add_scaled_row dst c src) ≡ add_scaled_row (take n dst) c (take n src)
unfolding scaled_row
take-add_scaled_row n dst c src = take-row_sum n dst (map (gf_mul c) src) ∙ ap (row_sum (take n dst)) (take-map (gf_mul c) n src)

-- ---- combinations

pub length-combination : (width : ℕ) (cs : List ℕ) (rows : List (List ℕ)) → length (combination width cs rows) ≡ width
unfolding combination
length-combination width [] rows = length-replicate width 0
length-combination width (c ∷ cs) [] = length-replicate width 0
length-combination width (c ∷ cs) (row ∷ rows) = length-add_scaled_row (combination width cs rows) c row ∙ length-combination width cs rows

-- a combination of rows of bytes is a row of bytes
pub combination-lt : (width : ℕ) (cs : List ℕ) (rows : List (List ℕ)) → All AreBytes rows → AreBytes (combination width cs rows)
unfolding combination
combination-lt width [] rows bytes = All-replicate (λ byte. byte < 256) width 0 (lit< tt)
combination-lt width (c ∷ cs) [] bytes = All-replicate (λ byte. byte < 256) width 0 (lit< tt)
combination-lt width (c ∷ cs) (row ∷ rows) bytes =
    add_scaled_row-lt (combination width cs rows) c row (combination-lt width cs rows (All-tail AreBytes row rows bytes)) (All-head AreBytes row rows bytes)

-- factors that are all 0
pub combination-zeros : (width n : ℕ) (rows : List (List ℕ)) → combination width (replicate n 0) rows ≡ replicate width 0
unfolding combination
combination-zeros width zero rows = refl
combination-zeros width (suc n) [] = refl
combination-zeros width (suc n) (row ∷ rows) = add_scaled_row-zero (combination width (replicate n 0) rows) row ∙ combination-zeros width n rows

zeros-add_scaled : (width f : ℕ) → add_scaled_row (replicate width 0) f (replicate width 0) ≡ replicate width 0
zeros-add_scaled width f = ap (row_sum (replicate width 0)) (scaled_row-replicate_zero f width) ∙ row_sum-replicate_zero (replicate width 0) width

-- sums of factors give sums of combinations
pub combination-add_scaled : (width : ℕ) (cs : List ℕ) (f : ℕ) (ds : List ℕ) (rows : List (List ℕ)) → length cs ≡ length ds → AreBytes ds → AreRows width rows
    → combination width (add_scaled_row cs f ds) rows ≡ add_scaled_row (combination width cs rows) f (combination width ds rows)
unfolding combination row_sum scaled_row
combination-add_scaled width [] f [] rows e bytes are = sym (zeros-add_scaled width f)
combination-add_scaled width [] f (d ∷ ds) rows e bytes are = absurd (omega arith)
combination-add_scaled width (c ∷ cs) f [] rows e bytes are = absurd (omega arith)
combination-add_scaled width (c ∷ cs) f (d ∷ ds) [] e bytes are = sym (zeros-add_scaled width f)
combination-add_scaled width (c ∷ cs) f (d ∷ ds) (row ∷ rows) e bytes are =
    ap (λ a. row_sum a (scaled_row (gf_add c (gf_mul f d)) row))
    (combination-add_scaled width cs f ds rows (omega arith) (All-tail (λ byte. byte < 256) d ds bytes) (AreRows-tail width row rows are)) ∙
    (ap (row_sum (row_sum a (scaled_row f b))) parts ∙
    (row_sum_row_sum_comm a (scaled_row f b) (scaled_row c row) (scaled_row f (scaled_row d row)) first second ∙
    ap (row_sum (row_sum a (scaled_row c row))) (sym (scaled_row-row_sum f b (scaled_row d row)))))
  where
    a : List ℕ
    a = combination width cs rows

    b : List ℕ
    b = combination width ds rows

    size : length row ≡ width
    size = All-head (λ row. length row ≡ width) row rows are.widths

    parts : scaled_row (gf_add c (gf_mul f d)) row ≡ row_sum (scaled_row c row) (scaled_row f (scaled_row d row))
    parts =
        scaled_row-gf_add c (gf_mul f d) row ∙
        ap (row_sum (scaled_row c row)) (scaled_row-gf_mul f d row (All-head (λ byte. byte < 256) d ds bytes) (All-head AreBytes row rows are.bytes))

    first : length (scaled_row f b) ≡ length (scaled_row c row)
    first = length-scaled_row f b ∙ length-combination width ds rows ∙ sym size ∙ sym (length-scaled_row c row)

    second : length (scaled_row c row) ≡ length (scaled_row f (scaled_row d row))
    second = length-scaled_row c row ∙ sym (length-scaled_row d row) ∙ sym (length-scaled_row f (scaled_row d row))

-- multiples of factors give a multiple of the combination
pub combination-scaled : (width f : ℕ) (ds : List ℕ) (rows : List (List ℕ)) → AreBytes ds → AreRows width rows
    → combination width (scaled_row f ds) rows ≡ scaled_row f (combination width ds rows)
unfolding combination scaled_row
combination-scaled width f [] rows bytes are = sym (scaled_row-replicate_zero f width)
combination-scaled width f (d ∷ ds) [] bytes are = sym (scaled_row-replicate_zero f width)
combination-scaled width f (d ∷ ds) (row ∷ rows) bytes are =
    ap (λ a. row_sum a (scaled_row (gf_mul f d) row))
    (combination-scaled width f ds rows (All-tail (λ byte. byte < 256) d ds bytes) (AreRows-tail width row rows are)) ∙
    (ap (row_sum (scaled_row f (combination width ds rows)))
    (scaled_row-gf_mul f d row (All-head (λ byte. byte < 256) d ds bytes) (All-head AreBytes row rows are.bytes)) ∙
    sym (scaled_row-row_sum f (combination width ds rows) (scaled_row d row)))

-- one more factor and row at the end
pub combination-push : (width : ℕ) (cs : List ℕ) (c : ℕ) (rows : List (List ℕ)) (row : List ℕ) → length cs ≡ length rows → AreRows width rows → length row ≡ width
    → combination width (cs ++ c ∷ []) (rows ++ row ∷ []) ≡ add_scaled_row (combination width cs rows) c row
unfolding combination
combination-push width [] c [] row e are size = refl
combination-push width [] c (r ∷ rows) row e are size = absurd (omega arith)
combination-push width (d ∷ cs) c [] row e are size = absurd (omega arith)
combination-push width (d ∷ cs) c (r ∷ rows) row e are size =
    ap (λ a. add_scaled_row a d r) (combination-push width cs c rows row (omega arith) (AreRows-tail width r rows are) size) ∙
    row_sum_right_comm (combination width cs rows) (scaled_row c row) (scaled_row d r)
    (length-scaled_row c row ∙ size ∙ sym (All-head (λ row. length row ≡ width) r rows are.widths) ∙ sym (length-scaled_row d r))

-- the first n entries of a combination are the combination of the rows' first n entries
pub take-combination : (width n : ℕ) (cs : List ℕ) (rows : List (List ℕ)) → n ≤ width → take n (combination width cs rows) ≡ combination n cs (map (take n) rows)
unfolding combination
take-combination width n [] rows within = take-replicate n width 0 within
take-combination width n (c ∷ cs) [] within = take-replicate n width 0 within
take-combination width n (c ∷ cs) (row ∷ rows) within =
    take-add_scaled_row n (combination width cs rows) c row ∙ ap (λ a. add_scaled_row a c (take n row)) (take-combination width n cs rows within)

-- an entry of a combination is the sum of the products of the factors and the rows' entries there
pub get_or-combination : (width : ℕ) (cs : List ℕ) (rows : List (List ℕ)) (i : ℕ) → i < width
    → get_or (combination width cs rows) i 0 ≡ gf_sum (length rows) (λ k. gf_mul (get_or cs k 0) (get_or (get_or rows k []) i 0))
unfolding combination
get_or-combination width [] rows i within =
    get_or-replicate width i 0 0 within ∙ sym (gf_sum-zeros (length rows) (λ k. gf_mul 0 (get_or (get_or rows k []) i 0)) (λ k h. zero-gf_mul (get_or (get_or rows k []) i 0)))
get_or-combination width (c ∷ cs) [] i within =
    get_or-replicate width i 0 0 within ∙ sym (gf_sum-zero (λ k. gf_mul (get_or (c ∷ cs) k 0) (get_or (get_or {A = List ℕ} [] k []) i 0)))
get_or-combination width (c ∷ cs) (row ∷ rows) i within =
    get_or-add_scaled_row (combination width cs rows) c row i (subst (λ n. i < n) (sym (length-combination width cs rows)) within) ∙
    (ap (λ x. gf_add x (gf_mul c (get_or row i 0))) (get_or-combination width cs rows i within) ∙
    (gf_add_comm (gf_sum (length rows) (λ k. gf_mul (get_or cs k 0) (get_or (get_or rows k []) i 0))) (gf_mul c (get_or row i 0)) ∙
    sym (gf_sum-first (length rows) (λ k. gf_mul (get_or (c ∷ cs) k 0) (get_or (get_or (row ∷ rows) k []) i 0)))))

-- ---- spans

pub length-IsInSpan : (width : ℕ) (rows : List (List ℕ)) (row : List ℕ) → IsInSpan width rows row → length row ≡ width
length-IsInSpan width rows row is = sym (ap (λ (r : List ℕ). length r) is.sums) ∙ length-combination width is.factors rows

pub IsInSpan-lt : (width : ℕ) (rows : List (List ℕ)) (row : List ℕ) → All AreBytes rows → IsInSpan width rows row → AreBytes row
IsInSpan-lt width rows row bytes is = subst AreBytes is.sums (combination-lt width is.factors rows bytes)

pub IsInSpan-zeros : (width : ℕ) (rows : List (List ℕ)) → IsInSpan width rows (replicate width 0)
IsInSpan-zeros width rows = record {
  factors = replicate (length rows) 0;
  bytes = All-replicate (λ byte. byte < 256) (length rows) 0 (lit< tt);
  size = length-replicate (length rows) 0;
  sums = combination-zeros width (length rows) rows;
}

pub IsInSpan-add_scaled : (width : ℕ) (rows : List (List ℕ)) (a : List ℕ) (f : ℕ) (b : List ℕ) → AreRows width rows → IsInSpan width rows a → IsInSpan width rows b
    → IsInSpan width rows (add_scaled_row a f b)
IsInSpan-add_scaled width rows a f b are one other = record {
  factors = add_scaled_row one.factors f other.factors;
  bytes = add_scaled_row-lt one.factors f other.factors one.bytes other.bytes;
  size = length-add_scaled_row one.factors f other.factors ∙ one.size;
  sums =
      combination-add_scaled width one.factors f other.factors rows (one.size ∙ sym other.size) other.bytes are ∙
      (ap (λ x. add_scaled_row x f (combination width other.factors rows)) one.sums ∙ ap (add_scaled_row a f) other.sums);
}

pub IsInSpan-row_sum : (width : ℕ) (rows : List (List ℕ)) (a b : List ℕ) → AreRows width rows → IsInSpan width rows a → IsInSpan width rows b → IsInSpan width rows (row_sum a b)
IsInSpan-row_sum width rows a b are one other =
    subst (λ x. IsInSpan width rows (row_sum a x)) (scaled_row-one b) (IsInSpan-add_scaled width rows a 1 b are one other)

pub IsInSpan-scaled : (width : ℕ) (rows : List (List ℕ)) (f : ℕ) (a : List ℕ) → AreRows width rows → IsInSpan width rows a → IsInSpan width rows (scaled_row f a)
IsInSpan-scaled width rows f a are is = record {
  factors = scaled_row f is.factors;
  bytes = scaled_row-lt f is.factors is.bytes;
  size = length-scaled_row f is.factors ∙ is.size;
  sums = combination-scaled width f is.factors rows is.bytes are ∙ ap (scaled_row f) is.sums;
}

-- the span of more rows, with one before the others
pub IsInSpan-cons : (width : ℕ) (row : List ℕ) (rows : List (List ℕ)) (a : List ℕ) → IsInSpan width rows a → IsInSpan width (row ∷ rows) a
unfolding combination
IsInSpan-cons width row rows a is = record {
  factors = 0 ∷ is.factors;
  bytes = All-cons (λ byte. byte < 256) 0 is.factors (lit< tt) is.bytes;
  size = ap suc is.size;
  sums = add_scaled_row-zero (combination width is.factors rows) row ∙ is.sums;
}

-- the span of more rows, with one after the others
pub IsInSpan-push : (width : ℕ) (rows : List (List ℕ)) (row a : List ℕ) → AreRows width rows → length row ≡ width → IsInSpan width rows a → IsInSpan width (rows ++ row ∷ []) a
IsInSpan-push width rows row a are size is = record {
  factors = is.factors ++ 0 ∷ [];
  bytes = All-push (λ byte. byte < 256) is.factors 0 is.bytes (lit< tt);
  size = length_push is.factors 0 ∙ (ap (λ n. n + 1) is.size ∙ sym (length_push rows row));
  sums =
      combination-push width is.factors 0 rows row is.size are size ∙
      (add_scaled_row-zero (combination width is.factors rows) row ∙ is.sums);
}

first-in : (width : ℕ) (row : List ℕ) (rows : List (List ℕ)) → length row ≡ width → IsInSpan width (row ∷ rows) row
unfolding combination
first-in width row rows size = record {
  factors = 1 ∷ replicate (length rows) 0;
  bytes = All-cons (λ byte. byte < 256) 1 (replicate (length rows) 0) (lit< tt) (All-replicate (λ byte. byte < 256) (length rows) 0 (lit< tt));
  size = ap suc (length-replicate (length rows) 0);
  sums =
      ap (λ x. add_scaled_row x 1 row) (combination-zeros width (length rows) rows) ∙
      (ap (row_sum (replicate width 0)) (scaled_row-one row) ∙
      (ap (λ n. row_sum (replicate n 0) row) (sym size) ∙ replicate_zero-row_sum row));
}

-- each of the rows is in their span
pub IsInSpan-each : (width : ℕ) (rows : List (List ℕ)) → All (λ row. length row ≡ width) rows → All (IsInSpan width rows) rows
IsInSpan-each width [] widths = All-nil (IsInSpan width [])
IsInSpan-each width (row ∷ rows) widths =
    All-cons (IsInSpan width (row ∷ rows)) row rows
    (first-in width row rows (All-head (λ row. length row ≡ width) row rows widths))
    (All-weaker (IsInSpan width rows) (IsInSpan width (row ∷ rows)) (IsInSpan-cons width row rows) rows (IsInSpan-each width rows (All-tail (λ row. length row ≡ width) row rows widths)))

-- the last of the rows is in their span
pub IsInSpan-last : (width : ℕ) (rows : List (List ℕ)) (row : List ℕ) → AreRows width rows → length row ≡ width → IsInSpan width (rows ++ row ∷ []) row
IsInSpan-last width rows row are size = record {
  factors = replicate (length rows) 0 ++ 1 ∷ [];
  bytes = All-push (λ byte. byte < 256) (replicate (length rows) 0) 1 (All-replicate (λ byte. byte < 256) (length rows) 0 (lit< tt)) (lit< tt);
  size = length_push (replicate (length rows) 0) 1 ∙ (ap (λ n. n + 1) (length-replicate (length rows) 0) ∙ sym (length_push rows row));
  sums =
      combination-push width (replicate (length rows) 0) 1 rows row (length-replicate (length rows) 0) are size ∙
      (ap (λ x. add_scaled_row x 1 row) (combination-zeros width (length rows) rows) ∙
      (ap (row_sum (replicate width 0)) (scaled_row-one row) ∙
      (ap (λ n. row_sum (replicate n 0) row) (sym size) ∙ replicate_zero-row_sum row)));
}

-- a combination of rows in a span is in it
pub IsInSpan-combination : (width : ℕ) (rows : List (List ℕ)) (cs : List ℕ) (others : List (List ℕ)) → AreRows width rows → All (IsInSpan width rows) others
    → IsInSpan width rows (combination width cs others)
unfolding combination
IsInSpan-combination width rows [] others are within = IsInSpan-zeros width rows
IsInSpan-combination width rows (c ∷ cs) [] are within = IsInSpan-zeros width rows
IsInSpan-combination width rows (c ∷ cs) (row ∷ others) are within =
    IsInSpan-add_scaled width rows (combination width cs others) c row are
    (IsInSpan-combination width rows cs others are (All-tail (IsInSpan width rows) row others within))
    (All-head (IsInSpan width rows) row others within)

-- what rows in a span span is in it
pub IsInSpan-trans : (width : ℕ) (rows others : List (List ℕ)) (row : List ℕ) → AreRows width rows → All (IsInSpan width rows) others → IsInSpan width others row → IsInSpan width rows row
IsInSpan-trans width rows others row are within is =
    subst (IsInSpan width rows) is.sums (IsInSpan-combination width rows is.factors others are within)

-- the first n entries of what rows span are in the span of their first n entries
pub take-IsInSpan : (width n : ℕ) (rows : List (List ℕ)) (row : List ℕ) → n ≤ width → IsInSpan width rows row → IsInSpan n (map (take n) rows) (take n row)
take-IsInSpan width n rows row within is = record {
  factors = is.factors;
  bytes = is.bytes;
  size = is.size ∙ sym (length-map rows (take n));
  sums = sym (take-combination width n is.factors rows within) ∙ ap (take n) is.sums;
}

-- ---- linear functions

-- a linear function that is 0 on each row is 0 on each combination
pub vanishes-combination : (width : ℕ) (h : List ℕ → ℕ) (cs : List ℕ) (rows : List (List ℕ)) → IsLinear width h → AreRows width rows → All (λ row. h row ≡ 0) rows
    → h (combination width cs rows) ≡ 0
unfolding combination
vanishes-combination width h [] rows linear are zeros = IsLinear-zeros width h linear
vanishes-combination width h (c ∷ cs) [] linear are zeros = IsLinear-zeros width h linear
vanishes-combination width h (c ∷ cs) (row ∷ rows) linear are zeros =
    linear.of_sum (combination width cs rows) c row (length-combination width cs rows) (All-head (λ row. length row ≡ width) row rows are.widths)
    (combination-lt width cs rows (All-tail AreBytes row rows are.bytes)) (All-head AreBytes row rows are.bytes) ∙
    (ap (λ x. gf_add x (gf_mul c (h row)))
    (vanishes-combination width h cs rows linear (AreRows-tail width row rows are) (All-tail (λ row. h row ≡ 0) row rows zeros)) ∙
    (zero-gf_add (gf_mul c (h row)) ∙ (ap (gf_mul c) (All-head (λ row. h row ≡ 0) row rows zeros) ∙ gf_mul-zero c)))

-- a linear function that is 0 on each row is 0 on their span
pub vanishes-span : (width : ℕ) (h : List ℕ → ℕ) (rows : List (List ℕ)) (row : List ℕ) → IsLinear width h → AreRows width rows → All (λ row. h row ≡ 0) rows → IsInSpan width rows row → h row ≡ 0
vanishes-span width h rows row linear are zeros is = sym (ap h is.sums) ∙ vanishes-combination width h is.factors rows linear are zeros

-- ---- triangular rows

pub AreTriangular-nil : AreTriangular [] []
AreTriangular-nil = record {
  sizes = refl;
  ones = λ i h. absurd (omega arith);
  later = λ i j h k. absurd (omega arith);
}

AreTriangular-tail : (pivot : ℕ) (pivots : List ℕ) (row : List ℕ) (rows : List (List ℕ)) → AreTriangular (pivot ∷ pivots) (row ∷ rows) → AreTriangular pivots rows
AreTriangular-tail pivot pivots row rows are = record {
  sizes = omega (arith, are.sizes);
  ones = λ i h. are.ones (suc i) (omega arith);
  later = λ i j h k. are.later (suc i) (suc j) (omega arith) (omega arith);
}

-- a pivot is below the width
pub pivot-lt : (pivots : List ℕ) (rows : List (List ℕ)) (i : ℕ) → AreTriangular pivots rows → i < length rows → get_or pivots i 0 < length (get_or rows i [])
pivot-lt pivots rows i are h = elim (cases_lt (get_or pivots i 0) (length (get_or rows i []))) [
  | inl below ↦ below
  | inr past ↦
      let one : 0 ≡ 1 = sym (get_or_past (get_or rows i []) (get_or pivots i 0) 0 (omega (arith, past))) ∙ are.ones i h in
      absurd (omega (arith, one))
]

zeros-combination : (width : ℕ) (cs pivots : List ℕ) (rows : List (List ℕ)) → AreBytes cs → AreRows width rows → AreTriangular pivots rows
    → length cs ≡ length rows → IsZeroAt pivots (combination width cs rows) → combination width cs rows ≡ replicate width 0
unfolding combination
zeros-combination width [] pivots rows bytes are triangular e at_pivots = refl
zeros-combination width (c ∷ cs) pivots [] bytes are triangular e at_pivots = refl
zeros-combination width (c ∷ cs) [] (row ∷ rows) bytes are triangular e at_pivots = absurd (omega (arith, triangular.sizes))
zeros-combination width (c ∷ cs) (pivot ∷ pivots) (row ∷ rows) bytes are triangular e at_pivots =
    same ∙
    zeros-combination width cs pivots rows (All-tail (λ byte. byte < 256) c cs bytes) are_rest (AreTriangular-tail pivot pivots row rows triangular) (omega arith)
    (subst (IsZeroAt pivots) same (All-tail (λ p. get_or (combination width (c ∷ cs) (row ∷ rows)) p 0 ≡ 0) pivot pivots at_pivots))
  where
    rest : List ℕ
    rest = combination width cs rows

    are_rest : AreRows width rows
    are_rest = AreRows-tail width row rows are

    below : pivot < width
    below = subst (λ n. pivot < n) (All-head (λ row. length row ≡ width) row rows are.widths) (pivot-lt (pivot ∷ pivots) (row ∷ rows) 0 triangular (omega arith))

    rest_zero : get_or rest pivot 0 ≡ 0
    rest_zero =
        vanishes-combination width (λ r. get_or r pivot 0) cs rows (IsLinear-entry width pivot below) are_rest
        (All-from_get_or (λ r. get_or r pivot 0 ≡ 0) rows [] (λ j h. triangular.later 0 (suc j) (omega arith) (omega arith)))

    factor : c ≡ 0
    factor =
        sym (gf_mul-one c (All-head (λ byte. byte < 256) c cs bytes)) ∙
        (ap (gf_mul c) (sym (triangular.ones 0 (omega arith))) ∙
        (sym (zero-gf_add (gf_mul c (get_or row pivot 0))) ∙
        (ap (λ x. gf_add x (gf_mul c (get_or row pivot 0))) (sym rest_zero) ∙
        (sym (get_or-add_scaled_row rest c row pivot (subst (λ n. pivot < n) (sym (length-combination width cs rows)) below)) ∙
        All-head (λ p. get_or (add_scaled_row rest c row) p 0 ≡ 0) pivot pivots at_pivots))))

    same : add_scaled_row rest c row ≡ rest
    same = ap (λ f. add_scaled_row rest f row) factor ∙ add_scaled_row-zero rest row

-- what triangular rows span and is 0 at each pivot is zeros
pub zeros-triangular : (width : ℕ) (pivots : List ℕ) (rows : List (List ℕ)) (row : List ℕ) → AreRows width rows → AreTriangular pivots rows → IsInSpan width rows row → IsZeroAt pivots row
    → row ≡ replicate width 0
zeros-triangular width pivots rows row are triangular is at_pivots =
    sym is.sums ∙ zeros-combination width is.factors pivots rows is.bytes are triangular is.size (subst (IsZeroAt pivots) (sym is.sums) at_pivots)

-- one more row that is 1 at its pivot and 0 at the earlier ones
pub AreTriangular-push : (pivots : List ℕ) (rows : List (List ℕ)) (pivot : ℕ) (row : List ℕ) → AreTriangular pivots rows → get_or row pivot 0 ≡ 1 → IsZeroAt pivots row
    → AreTriangular (pivots ++ pivot ∷ []) (rows ++ row ∷ [])
AreTriangular-push pivots rows pivot row are one at_pivots = record {
  sizes = length_push pivots pivot ∙ (ap (λ n. n + 1) are.sizes ∙ sym (length_push rows row));
  ones = λ i h. elim (cases_lt i (length rows)) [
    | inl before ↦ at (get_or_append_left rows (row ∷ []) [] i before) (get_or_append_left pivots (pivot ∷ []) 0 i (omega (arith, are.sizes))) ∙ are.ones i before
    | inr last ↦
        let place : length rows ≡ i = omega (arith, length_push rows row) in
        at (get_or_push rows row [] i place) (get_or_push pivots pivot 0 i (are.sizes ∙ place)) ∙ one
  ];
  later = λ i j h k. elim (cases_lt j (length rows)) [
    | inl before ↦
        at (get_or_append_left rows (row ∷ []) [] j before) (get_or_append_left pivots (pivot ∷ []) 0 i (omega (arith, are.sizes))) ∙ are.later i j h before
    | inr last ↦
        let place : length rows ≡ j = omega (arith, length_push rows row) in
        at (get_or_push rows row [] j place) (get_or_append_left pivots (pivot ∷ []) 0 i (omega (arith, are.sizes))) ∙ at_pivots i 0 (omega (arith, are.sizes))
  ];
}
  where
    at : {r s : List ℕ} {p q : ℕ} → r ≡ s → p ≡ q → get_or r p 0 ≡ get_or s q 0
    at {r} {s} {p} {q} e f = ap (λ (x : List ℕ). get_or x p 0) e ∙ ap (λ (y : ℕ). get_or s y 0) f
