-- Sums and multiples of rows: their lengths, their entries, and the laws of a vector space.
use Rattle.std.proofs.Common.{ℕ, zero, suc, ◌≡◌, ◌<◌, ◌+◌, ◌∙◌, List, [], ◌∷◌, length, get_or, set, take, replicate, sym, ap, subst, refl, arith, add-one, lit<}
use Rattle.std.proofs.lemmas.List.{length-map, map-set}
use Rattle.std.proofs.lemmas.List.Elements.{All-from_get_or, All-head, All-tail}
use Rattle.gf_core.specs.Field.{gf_add, gf_mul}
use Rattle.gf_core.proofs.AddLemmas.{gf_add-lt, gf_add-zero, zero-gf_add, gf_add_self, gf_add_assoc, gf_add_comm}
use Rattle.gf_core.proofs.ProductLemmas.{gf_mul-lt, gf_mul-zero, gf_mul-gf_add, gf_mul-gf_add_left, zero-gf_mul, one-gf_mul, gf_mul_assoc}
use Rattle.gf_core.specs.Bytes.{AreBytes}
use Rattle.gf_core.specs.Rows.{row_sum, scaled_row, add_scaled_row, column_of}

pub row_sum-nil : (xs : List ℕ) → row_sum xs [] ≡ xs
unfolding row_sum
row_sum-nil [] = refl
row_sum-nil (x ∷ xs) = refl

pub length-row_sum : (xs ys : List ℕ) → length (row_sum xs ys) ≡ length xs
unfolding row_sum
length-row_sum [] ys = refl
length-row_sum (x ∷ xs) [] = refl
length-row_sum (x ∷ xs) (y ∷ ys) = ap suc (length-row_sum xs ys)

pub get_or-row_sum : (xs ys : List ℕ) (k : ℕ) → k < length xs → get_or (row_sum xs ys) k 0 ≡ gf_add (get_or xs k 0) (get_or ys k 0)
unfolding row_sum
get_or-row_sum [] ys k h = absurd (omega arith)
get_or-row_sum (x ∷ xs) [] k h = sym (gf_add-zero (get_or (x ∷ xs) k 0))
get_or-row_sum (x ∷ xs) (y ∷ ys) zero h = refl
get_or-row_sum (x ∷ xs) (y ∷ ys) (suc k) h = get_or-row_sum xs ys k (omega arith)

pub length-scaled_row : (c : ℕ) (xs : List ℕ) → length (scaled_row c xs) ≡ length xs
unfolding scaled_row
length-scaled_row c xs = length-map xs (gf_mul c)

-- at each place, also past the end, where both are 0
pub get_or-scaled_row : (c : ℕ) (xs : List ℕ) (k : ℕ) → get_or (scaled_row c xs) k 0 ≡ gf_mul c (get_or xs k 0)
unfolding scaled_row
get_or-scaled_row c [] k = sym (gf_mul-zero c)
get_or-scaled_row c (x ∷ xs) zero = refl
get_or-scaled_row c (x ∷ xs) (suc k) = get_or-scaled_row c xs k

pub length-add_scaled_row : (dst : List ℕ) (c : ℕ) (src : List ℕ) → length (add_scaled_row dst c src) ≡ length dst
length-add_scaled_row dst c src = length-row_sum dst (scaled_row c src)

pub get_or-add_scaled_row : (dst : List ℕ) (c : ℕ) (src : List ℕ) (k : ℕ) → k < length dst
    → get_or (add_scaled_row dst c src) k 0 ≡ gf_add (get_or dst k 0) (gf_mul c (get_or src k 0))
get_or-add_scaled_row dst c src k h =
    get_or-row_sum dst (scaled_row c src) k h ∙ ap (gf_add (get_or dst k 0)) (get_or-scaled_row c src k)

-- nothing of the source is added yet
pub add_scaled_row_none : (dst : List ℕ) (c : ℕ) (src : List ℕ) → dst ≡ add_scaled_row dst c (take 0 src)
unfolding scaled_row
add_scaled_row_none dst c src = sym (row_sum-nil dst)

next_entry : (dst : List ℕ) (c : ℕ) (src : List ℕ) (i : ℕ) → i < length dst → i < length src
    → set (add_scaled_row dst c (take i src)) i (gf_add (get_or (add_scaled_row dst c (take i src)) i 0) (gf_mul c (get_or src i 0))) ≡ add_scaled_row dst c (take (suc i) src)
unfolding row_sum scaled_row
next_entry [] c src i p q = absurd (omega arith)
next_entry (x ∷ xs) c [] i p q = absurd (omega arith)
next_entry (x ∷ xs) c (y ∷ ys) zero p q = ap (λ zs. gf_add x (gf_mul c y) ∷ zs) (sym (row_sum-nil xs))
next_entry (x ∷ xs) c (y ∷ ys) (suc i) p q = ap (λ zs. gf_add x (gf_mul c y) ∷ zs) (next_entry xs c ys i (omega arith) (omega arith))

-- one more entry of the source is added
pub add_scaled_row_more : (dst : List ℕ) (c : ℕ) (src : List ℕ) (i : ℕ) → i < length dst → i < length src
    → set (add_scaled_row dst c (take i src)) i (gf_add (get_or (add_scaled_row dst c (take i src)) i 0) (gf_mul c (get_or src i 0))) ≡ add_scaled_row dst c (take (i + 1) src)
add_scaled_row_more dst c src i p q = rw add-one (next_entry dst c src i p q)

-- an entry of a row of bytes, or the 0 past its end
pub byte_at : (xs : List ℕ) (k : ℕ) → AreBytes xs → get_or xs k 0 < 256
byte_at [] k p = lit< tt
byte_at (x ∷ xs) zero p = p 0 0 (omega arith)
byte_at (x ∷ xs) (suc k) p = byte_at xs k (All-tail (λ byte. byte < 256) x xs p)

pub row_sum-lt : (xs ys : List ℕ) → AreBytes xs → AreBytes ys → AreBytes (row_sum xs ys)
row_sum-lt xs ys p q =
    All-from_get_or (λ byte. byte < 256) (row_sum xs ys) 0
    (λ k h. subst (λ byte. byte < 256) (sym (get_or-row_sum xs ys k (rw (← length-row_sum xs ys) h))) (gf_add-lt (get_or xs k 0) (get_or ys k 0) (byte_at xs k p) (byte_at ys k q)))

pub scaled_row-lt : (c : ℕ) (xs : List ℕ) → AreBytes xs → AreBytes (scaled_row c xs)
scaled_row-lt c xs p =
    All-from_get_or (λ byte. byte < 256) (scaled_row c xs) 0
    (λ k h. subst (λ byte. byte < 256) (sym (get_or-scaled_row c xs k)) (gf_mul-lt c (get_or xs k 0) (byte_at xs k p)))

pub add_scaled_row-lt : (dst : List ℕ) (c : ℕ) (src : List ℕ) → AreBytes dst → AreBytes src → AreBytes (add_scaled_row dst c src)
add_scaled_row-lt dst c src p q = row_sum-lt dst (scaled_row c src) p (scaled_row-lt c src q)

-- of two rows of one length, at each place, also past the end, where all are 0
pub get_or-row_sum_even : (xs ys : List ℕ) (k : ℕ) → length xs ≡ length ys → get_or (row_sum xs ys) k 0 ≡ gf_add (get_or xs k 0) (get_or ys k 0)
unfolding row_sum
get_or-row_sum_even [] [] k e = refl
get_or-row_sum_even [] (y ∷ ys) k e = absurd (omega arith)
get_or-row_sum_even (x ∷ xs) [] k e = absurd (omega arith)
get_or-row_sum_even (x ∷ xs) (y ∷ ys) zero e = refl
get_or-row_sum_even (x ∷ xs) (y ∷ ys) (suc k) e = get_or-row_sum_even xs ys k (omega arith)

-- a sum of two entries, put at one place of the sum of two rows
pub row_sum-set : (xs ys : List ℕ) (k a b : ℕ) → length xs ≡ length ys → row_sum (set xs k a) (set ys k b) ≡ set (row_sum xs ys) k (gf_add a b)
unfolding row_sum
row_sum-set [] [] k a b e = refl
row_sum-set [] (y ∷ ys) k a b e = absurd (omega arith)
row_sum-set (x ∷ xs) [] k a b e = absurd (omega arith)
row_sum-set (x ∷ xs) (y ∷ ys) zero a b e = refl
row_sum-set (x ∷ xs) (y ∷ ys) (suc k) a b e = ap (λ zs. gf_add x y ∷ zs) (row_sum-set xs ys k a b (omega arith))

pub scaled_row-set : (c : ℕ) (xs : List ℕ) (k a : ℕ) → scaled_row c (set xs k a) ≡ set (scaled_row c xs) k (gf_mul c a)
unfolding scaled_row
scaled_row-set c xs k a = map-set (gf_mul c) xs k a

pub row_sum_comm : (xs ys : List ℕ) → length xs ≡ length ys → row_sum xs ys ≡ row_sum ys xs
unfolding row_sum
row_sum_comm [] [] e = refl
row_sum_comm [] (y ∷ ys) e = absurd (omega arith)
row_sum_comm (x ∷ xs) [] e = absurd (omega arith)
row_sum_comm (x ∷ xs) (y ∷ ys) e = ap (λ z. z ∷ row_sum xs ys) (gf_add_comm x y) ∙ ap (λ zs. gf_add y x ∷ zs) (row_sum_comm xs ys (omega arith))

pub row_sum_assoc : (xs ys zs : List ℕ) → length ys ≡ length zs → row_sum (row_sum xs ys) zs ≡ row_sum xs (row_sum ys zs)
unfolding row_sum
row_sum_assoc [] ys zs e = refl
row_sum_assoc (x ∷ xs) [] [] e = refl
row_sum_assoc (x ∷ xs) [] (z ∷ zs) e = absurd (omega arith)
row_sum_assoc (x ∷ xs) (y ∷ ys) [] e = absurd (omega arith)
row_sum_assoc (x ∷ xs) (y ∷ ys) (z ∷ zs) e =
    ap (λ w. w ∷ row_sum (row_sum xs ys) zs) (gf_add_assoc x y z) ∙ ap (λ ws. gf_add x (gf_add y z) ∷ ws) (row_sum_assoc xs ys zs (omega arith))

-- a multiple of a sum of rows
pub scaled_row-row_sum : (c : ℕ) (xs ys : List ℕ) → scaled_row c (row_sum xs ys) ≡ row_sum (scaled_row c xs) (scaled_row c ys)
unfolding row_sum scaled_row
scaled_row-row_sum c [] ys = refl
scaled_row-row_sum c (x ∷ xs) [] = refl
scaled_row-row_sum c (x ∷ xs) (y ∷ ys) =
    ap (λ z. z ∷ scaled_row c (row_sum xs ys)) (gf_mul-gf_add c x y) ∙ ap (λ zs. gf_add (gf_mul c x) (gf_mul c y) ∷ zs) (scaled_row-row_sum c xs ys)

-- the multiple by a sum of factors
pub scaled_row-gf_add : (c d : ℕ) (xs : List ℕ) → scaled_row (gf_add c d) xs ≡ row_sum (scaled_row c xs) (scaled_row d xs)
unfolding row_sum scaled_row
scaled_row-gf_add c d [] = refl
scaled_row-gf_add c d (x ∷ xs) =
    ap (λ z. z ∷ scaled_row (gf_add c d) xs) (gf_mul-gf_add_left c d x) ∙ ap (λ zs. gf_add (gf_mul c x) (gf_mul d x) ∷ zs) (scaled_row-gf_add c d xs)

-- the multiple by a product of factors
pub scaled_row-gf_mul : (c d : ℕ) (xs : List ℕ) → d < 256 → AreBytes xs → scaled_row (gf_mul c d) xs ≡ scaled_row c (scaled_row d xs)
unfolding scaled_row
scaled_row-gf_mul c d [] q bytes = refl
scaled_row-gf_mul c d (x ∷ xs) q bytes =
    ap (λ z. z ∷ scaled_row (gf_mul c d) xs) (gf_mul_assoc c d x q (All-head (λ byte. byte < 256) x xs bytes)) ∙
    ap (λ zs. gf_mul c (gf_mul d x) ∷ zs) (scaled_row-gf_mul c d xs q (All-tail (λ byte. byte < 256) x xs bytes))

pub scaled_row-one : (xs : List ℕ) → scaled_row 1 xs ≡ xs
unfolding scaled_row
scaled_row-one [] = refl
scaled_row-one (x ∷ xs) = ap (λ z. z ∷ scaled_row 1 xs) (one-gf_mul x) ∙ ap (λ zs. x ∷ zs) (scaled_row-one xs)

pub scaled_row-zero : (xs : List ℕ) → scaled_row 0 xs ≡ replicate (length xs) 0
unfolding scaled_row
scaled_row-zero [] = refl
scaled_row-zero (x ∷ xs) = ap (λ z. z ∷ scaled_row 0 xs) (zero-gf_mul x) ∙ ap (λ zs. 0 ∷ zs) (scaled_row-zero xs)

pub scaled_row-replicate_zero : (c n : ℕ) → scaled_row c (replicate n 0) ≡ replicate n 0
unfolding scaled_row
scaled_row-replicate_zero c zero = refl
scaled_row-replicate_zero c (suc n) = ap (λ z. z ∷ scaled_row c (replicate n 0)) (gf_mul-zero c) ∙ ap (λ zs. 0 ∷ zs) (scaled_row-replicate_zero c n)

-- a row of zeros adds nothing
pub row_sum-replicate_zero : (xs : List ℕ) (n : ℕ) → row_sum xs (replicate n 0) ≡ xs
unfolding row_sum
row_sum-replicate_zero [] n = refl
row_sum-replicate_zero (x ∷ xs) zero = refl
row_sum-replicate_zero (x ∷ xs) (suc n) = ap (λ z. z ∷ row_sum xs (replicate n 0)) (gf_add-zero x) ∙ ap (λ zs. x ∷ zs) (row_sum-replicate_zero xs n)

pub replicate_zero-row_sum : (xs : List ℕ) → row_sum (replicate (length xs) 0) xs ≡ xs
unfolding row_sum
replicate_zero-row_sum [] = refl
replicate_zero-row_sum (x ∷ xs) = ap (λ z. z ∷ row_sum (replicate (length xs) 0) xs) (zero-gf_add x) ∙ ap (λ zs. x ∷ zs) (replicate_zero-row_sum xs)

-- each row is its own negative
pub row_sum_self : (xs : List ℕ) → row_sum xs xs ≡ replicate (length xs) 0
unfolding row_sum
row_sum_self [] = refl
row_sum_self (x ∷ xs) = ap (λ z. z ∷ row_sum xs xs) (gf_add_self x) ∙ ap (λ zs. 0 ∷ zs) (row_sum_self xs)

-- factor 0 adds nothing
pub add_scaled_row-zero : (dst src : List ℕ) → add_scaled_row dst 0 src ≡ dst
add_scaled_row-zero dst src = ap (row_sum dst) (scaled_row-zero src) ∙ row_sum-replicate_zero dst (length src)

-- the same multiple added twice is taken away again
pub add_scaled_row_cancel : (dst : List ℕ) (c : ℕ) (src : List ℕ) → add_scaled_row (add_scaled_row dst c src) c src ≡ dst
add_scaled_row_cancel dst c src =
    row_sum_assoc dst (scaled_row c src) (scaled_row c src) refl ∙
    (ap (row_sum dst) (row_sum_self (scaled_row c src)) ∙ row_sum-replicate_zero dst (length (scaled_row c src)))

pub length-column_of : (rows : List (List ℕ)) (j : ℕ) → length (column_of rows j) ≡ length rows
unfolding column_of
length-column_of rows j = length-map rows (λ row. get_or row j 0)

-- at each row, also past the last, where the entry is 0
pub get_or-column_of : (rows : List (List ℕ)) (j k : ℕ) → get_or (column_of rows j) k 0 ≡ get_or (get_or rows k []) j 0
unfolding column_of
get_or-column_of [] j k = refl
get_or-column_of (row ∷ rows) j zero = refl
get_or-column_of (row ∷ rows) j (suc k) = get_or-column_of rows j k

pub column_of-set : (rows : List (List ℕ)) (j k : ℕ) (row : List ℕ) → column_of (set rows k row) j ≡ set (column_of rows j) k (get_or row j 0)
unfolding column_of
column_of-set [] j k row = refl
column_of-set (top ∷ rows) j zero row = refl
column_of-set (top ∷ rows) j (suc k) row = ap (λ zs. get_or top j 0 ∷ zs) (column_of-set rows j k row)
