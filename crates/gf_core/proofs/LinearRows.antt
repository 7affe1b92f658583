-- Rows of one width, and linear functions of rows, such as the entry at a place or the product with a list of elements.
use Rattle.std.proofs.Common.{ℕ, ◌≡◌, ◌<◌, ◌≤◌, ◌∙◌, List, [], ◌∷◌, ◌++◌, length, get_or, replicate, sym, ap, arith}
use Rattle.std.proofs.lemmas.List.{length-replicate}
use Rattle.std.proofs.lemmas.List.Elements.{All-nil, All-tail, All-push, All-replicate}
use Rattle.gf_core.specs.Bytes.{AreBytes}
use Rattle.gf_core.specs.Field.{gf_add, gf_mul, gf_sum}
use Rattle.gf_core.specs.Rows.{scaled_row, add_scaled_row}
pub use Rattle.gf_core.specs.Triangular.{AreRows}
use Rattle.gf_core.proofs.AddLemmas.{gf_add_add_comm}
use Rattle.gf_core.proofs.SumLemmas.{gf_sum-congruence, gf_sum-gf_add}
use Rattle.gf_core.proofs.ProductLemmas.{zero-gf_mul, gf_mul-gf_add, gf_mul-gf_add_left, gf_mul-gf_sum, gf_mul_assoc}
use Rattle.gf_core.proofs.RowLemmas.{byte_at, get_or-add_scaled_row, get_or-scaled_row, scaled_row-replicate_zero}

pub AreRows-nil : (width : ℕ) → AreRows width []
AreRows-nil width = record {
  widths = All-nil (λ row. length row ≡ width);
  bytes = All-nil AreBytes;
}

pub AreRows-tail : (width : ℕ) (row : List ℕ) (rows : List (List ℕ)) → AreRows width (row ∷ rows) → AreRows width rows
AreRows-tail width row rows are = record {
  widths = All-tail (λ row. length row ≡ width) row rows are.widths;
  bytes = All-tail AreBytes row rows are.bytes;
}

pub AreRows-push : (width : ℕ) (rows : List (List ℕ)) (row : List ℕ) → AreRows width rows → length row ≡ width → AreBytes row → AreRows width (rows ++ row ∷ [])
AreRows-push width rows row are size bytes = record {
  widths = All-push (λ row. length row ≡ width) rows row are.widths size;
  bytes = All-push AreBytes rows row are.bytes bytes;
}

-- the function of rows of this width keeps sums and multiples
pub record IsLinear (width : ℕ) (h : List ℕ → ℕ) : Type 0 where
  pub of_sum : (a : List ℕ) (c : ℕ) (b : List ℕ) → length a ≡ width → length b ≡ width → AreBytes a → AreBytes b → h (add_scaled_row a c b) ≡ gf_add (h a) (gf_mul c (h b))
  pub of_multiple : (c : ℕ) (a : List ℕ) → length a ≡ width → AreBytes a → h (scaled_row c a) ≡ gf_mul c (h a)

-- of zeros it is 0
pub IsLinear-zeros : (width : ℕ) (h : List ℕ → ℕ) → IsLinear width h → h (replicate width 0) ≡ 0
IsLinear-zeros width h linear =
    ap h (sym (scaled_row-replicate_zero 0 width)) ∙
    (linear.of_multiple 0 (replicate width 0) (length-replicate width 0) (All-replicate (λ byte. byte < 256) width 0 (omega arith)) ∙
    zero-gf_mul (h (replicate width 0)))

-- the entry at a place is linear
pub IsLinear-entry : (width k : ℕ) → k < width → IsLinear width (λ row. get_or row k 0)
IsLinear-entry width k below = record {
  of_sum = λ a c b la lb pa pb. get_or-add_scaled_row a c b k (omega (arith, la));
  of_multiple = λ c a la pa. get_or-scaled_row c a k;
}

-- the product of the first n entries with a list of elements is linear
pub IsLinear-front : (width n : ℕ) (x : ℕ → ℕ) → n ≤ width → ((j : ℕ) → j < n → x j < 256) → IsLinear width (λ row. gf_sum n (λ j. gf_mul (get_or row j 0) (x j)))
IsLinear-front width n x within below = record {
  of_sum = λ a c b la lb pa pb.
      gf_sum-congruence n (λ j. gf_mul (get_or (add_scaled_row a c b) j 0) (x j)) (λ j. gf_add (gf_mul (get_or a j 0) (x j)) (gf_mul c (gf_mul (get_or b j 0) (x j))))
      (λ j h.
      ap (λ y. gf_mul y (x j)) (get_or-add_scaled_row a c b j (omega (arith, la))) ∙
      (gf_mul-gf_add_left (get_or a j 0) (gf_mul c (get_or b j 0)) (x j) ∙
      ap (gf_add (gf_mul (get_or a j 0) (x j))) (gf_mul_assoc c (get_or b j 0) (x j) (byte_at b j pb) (below j h)))) ∙
      (gf_sum-gf_add n (λ j. gf_mul (get_or a j 0) (x j)) (λ j. gf_mul c (gf_mul (get_or b j 0) (x j))) ∙
      ap (gf_add (gf_sum n (λ j. gf_mul (get_or a j 0) (x j)))) (sym (gf_mul-gf_sum c n (λ j. gf_mul (get_or b j 0) (x j)))));
  of_multiple = λ c a la pa.
      gf_sum-congruence n (λ j. gf_mul (get_or (scaled_row c a) j 0) (x j)) (λ j. gf_mul c (gf_mul (get_or a j 0) (x j)))
      (λ j h. ap (λ y. gf_mul y (x j)) (get_or-scaled_row c a j) ∙ gf_mul_assoc c (get_or a j 0) (x j) (byte_at a j pa) (below j h)) ∙
      sym (gf_mul-gf_sum c n (λ j. gf_mul (get_or a j 0) (x j)));
}

-- the product with a list of elements is linear
pub IsLinear-product : (width : ℕ) (x : ℕ → ℕ) → ((j : ℕ) → j < width → x j < 256) → IsLinear width (λ row. gf_sum width (λ j. gf_mul (get_or row j 0) (x j)))
IsLinear-product width x below = IsLinear-front width width x (omega arith) below

-- the sum of two linear functions is linear
pub IsLinear-gf_add : (width : ℕ) (f h : List ℕ → ℕ) → IsLinear width f → IsLinear width h → IsLinear width (λ row. gf_add (f row) (h row))
IsLinear-gf_add width f h first second = record {
  of_sum = λ a c b la lb pa pb.
      ap (λ x. gf_add x (h (add_scaled_row a c b))) (first.of_sum a c b la lb pa pb) ∙
      (ap (gf_add (gf_add (f a) (gf_mul c (f b)))) (second.of_sum a c b la lb pa pb) ∙
      (gf_add_add_comm (f a) (gf_mul c (f b)) (h a) (gf_mul c (h b)) ∙
      ap (gf_add (gf_add (f a) (h a))) (sym (gf_mul-gf_add c (f b) (h b)))));
  of_multiple = λ c a la pa.
      ap (λ x. gf_add x (h (scaled_row c a))) (first.of_multiple c a la pa) ∙
      (ap (gf_add (gf_mul c (f a))) (second.of_multiple c a la pa) ∙
      sym (gf_mul-gf_add c (f a) (h a)));
}
