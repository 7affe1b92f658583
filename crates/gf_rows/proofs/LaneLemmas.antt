-- Rows that are changed a vector at a time. A vector is the list of its lanes.
use Rattle.std.proofs.Common.{ℕ, zero, suc, ◌≡◌, ◌≢◌, ◌<◌, ◌≤◌, ◌+◌, ◌-◌, ◌*◌, ◌/◌, ◌%◌, ◌^◌, ◌∙◌, Bool, true, false, cond, leb, List, [], ◌∷◌, ◌++◌, length, get_or, set, take, drop, map, replicate, bit_and, bit_xor, sym, ap, subst, refl, arith, w8, Fits, leb-true, leb-false}
use Rattle.std.proofs.Math.Nat.{mod-eq_of_lt}
use Rattle.std.specs.Int.Bits.{and_zero_r}
use Rattle.std.proofs.lemmas.List.{ext_get_or, get_or-map, length-map, length-append, length-drop, length-take-le, take_at, drop_at, take_all, drop_all, append-nil}
use borrow.Rule.Slice.PartMut.{put_mid}
use Rattle.std.proofs.lemmas.Nat.{and_le_r, and_mask}
use Rattle.std.proofs.lemmas.Simd.{Each1-all, Each1-weaker, Each1-zip2, Each2-splat, Each1-get_or, below_from_Fits, length-zip2, zip2_splat, zip2_of_maps, swz_l, SwzOk, SwzOk-from_below, length-swz_l, get_or-swz_l_below}
use Rattle.std.specs.Int.{bit_at}
use lib.Lanes.{zip2, sel_l, top, Each1, chunk, put_chunk}
use Rattle.gf_core.specs.Field.{gf_add, gf_mul, double}
use Rattle.gf_core.specs.Rows.{row_sum, scaled_row, add_scaled_row}
use Rattle.gf_core.proofs.DoubleLemmas.{double_of_clear, double_of_set}
use Rattle.gf_core.proofs.AddLemmas.{gf_add-zero, zero-gf_add}
use Rattle.gf_core.proofs.RowLemmas.{row_sum-nil, length-scaled_row, length-add_scaled_row, scaled_row-one, add_scaled_row_more}
use Rattle.gf_core.proofs.ProductLemmas.{one-gf_mul}
use Rattle.gf_rows.specs.declared.halves.TheConstants.{BIT_0, BIT_1, BIT_2, BIT_3}
use Rattle.gf_rows.specs.HalfProducts.{AreProducts, four_sums}
use Rattle.gf_rows.proofs.HalfLemmas.{gf_mul_by_halves}

-- a vector of 32 bytes
abbrev pub IsVector : List ℕ → Type 0
IsVector v = (length v ≡ 32) × Each1 (Fits w8) v

-- ---- the lanes doubled

abbrev pub wrapped_sum : ℕ → ℕ → ℕ
wrapped_sum a b = (a + b) % 2 ^ 8

abbrev pub at_least : ℕ → ℕ → ℕ
at_least a b = cond (leb a b) 255 0

double_lane : (x : ℕ) → x < 256 → bit_xor (wrapped_sum x x) (cond (top 7 (at_least 128 x)) 0x1D 0) ≡ double x
double_lane x below = go (leb 128 x) refl
  where
    go : (t : Bool) → leb 128 x ≡ t → bit_xor (wrapped_sum x x) (cond (top 7 (cond t 255 0)) 0x1D 0) ≡ double x
    go true e =
        let high : 128 ≤ x = leb-true _ _ e in
        let bit : bit_at x 7 ≡ 1 = omega arith in
        let twice : wrapped_sum x x ≡ x * 2 % 256 = omega arith in
        ap (λ y. gf_add y 0x1D) twice ∙ sym (double_of_set x bit)
    go false e =
        let low : x < 128 = leb-false _ _ e in
        let bit : bit_at x 7 ≢ 1 = λ h. omega arith in
        let twice : wrapped_sum x x ≡ x * 2 % 256 = omega arith in
        gf_add-zero (wrapped_sum x x) ∙ twice ∙ sym (double_of_clear x bit)

pub double_lanes : (n : ℕ) (v : List ℕ) → length v ≡ n → Each1 (Fits w8) v
    → zip2 bit_xor (zip2 wrapped_sum v v) (sel_l (map (top 7) (zip2 at_least (replicate n 128) v)) (replicate n 0x1D) (replicate n 0)) ≡ map double v
double_lanes zero [] e fits = refl
double_lanes zero (x ∷ xs) e fits = absurd (omega arith)
double_lanes (suc n) [] e fits = absurd (omega arith)
double_lanes (suc n) (x ∷ xs) e fits =
    ap (λ y. y ∷ zip2 bit_xor (zip2 wrapped_sum xs xs) (sel_l (map (top 7) (zip2 at_least (replicate n 128) xs)) (replicate n 0x1D) (replicate n 0))) (double_lane x fits.0.fits) ∙
    ap (λ ys. double x ∷ ys) (double_lanes n xs (omega arith) fits.1)

-- ---- look-ups in the tables of halves

abbrev pub shifted_down : ℕ → ℕ → ℕ
shifted_down a b = a / 2 ^ b

pub high_places : (v : List ℕ) → IsVector v → SwzOk w8 16 32 0 (zip2 shifted_down v (replicate 32 4))
high_places v fits =
    let small = Each1-weaker (λ a. a < 256) (λ a. a / 16 < 16) (λ a h. omega arith) v (below_from_Fits w8 v fits.1) in
    SwzOk-from_below w8 16 2 32 0 (zip2 shifted_down v (replicate 32 4)) refl (omega (arith, length-zip2 shifted_down v (replicate 32 4) fits.0))
    (Each1-zip2 shifted_down (λ j. j < 16) v (replicate 32 4) (Each2-splat (λ a b. shifted_down a b < 16) v 32 4 small))

pub low_places : (v : List ℕ) → IsVector v → SwzOk w8 16 32 0 (zip2 bit_and v (replicate 32 15))
low_places v fits =
    let small = Each1-all (λ a. bit_and a 15 < 16) (λ a. omega (arith, and_le_r a 15)) v in
    SwzOk-from_below w8 16 2 32 0 (zip2 bit_and v (replicate 32 15)) refl (omega (arith, length-zip2 bit_and v (replicate 32 15) fits.0))
    (Each1-zip2 bit_and (λ j. j < 16) v (replicate 32 15) (Each2-splat (λ a b. bit_and a b < 16) v 32 15 small))

-- a table of f, read at the places g x below 16
looked_up : (t : List ℕ) (f g : ℕ → ℕ) (v js : List ℕ) → IsVector v → js ≡ map g v → ((x : ℕ) → x < 256 → g x < 16)
    → ((lane half : ℕ) → lane < 32 → half < 16 → get_or t (16 * (lane / 16) + half) 0 ≡ f half) → swz_l w8 16 t 0 js ≡ map (λ x. f (g x)) v
looked_up t f g v js fits e small are =
    let long : length js ≡ 32 = ap length e ∙ length-map v g ∙ fits.0 in
    ext_get_or 0 _ _ (length-swz_l w8 16 t 0 js ∙ long ∙ sym (length-map v (λ x. f (g x)) ∙ fits.0)) (λ i h.
    let lt : i < 32 = omega (arith, length-swz_l w8 16 t 0 js) in
    let within : i < length v = omega (arith, fits.0) in
    let fit : Fits w8 (get_or v i 0) = Each1-get_or (Fits w8) v i 0 within fits.1 in
    let is : get_or js i 0 ≡ g (get_or v i 0) = ap (λ l. get_or l i 0) e ∙ get_or-map g v i 0 0 within in
    let below : get_or js i 0 < 16 = omega (arith, small (get_or v i 0) fit.fits) in
    let place : 0 + i ≡ i = omega arith in
    get_or-swz_l_below w8 16 t 0 js i (omega arith) below
    ∙ ap (λ n. get_or t (16 * (n / 16) + get_or js i 0) 0) place
    ∙ are i (get_or js i 0) lt below
    ∙ ap f is ∙ sym (get_or-map (λ x. f (g x)) v i 0 0 within))

pub products_of_lanes : (c : ℕ) (low high v : List ℕ) → AreProducts c low high → IsVector v
    → zip2 bit_xor (swz_l w8 16 low 0 (zip2 bit_and v (replicate 32 15))) (swz_l w8 16 high 0 (zip2 shifted_down v (replicate 32 4))) ≡ map (gf_mul c) v
products_of_lanes c low high v are fits =
    zip2_of_maps bit_xor (λ x. gf_mul c (x % 16)) (λ x. gf_mul c (x / 16 * 16)) v
    (looked_up low (gf_mul c) (λ x. bit_and x 15) v _ fits (zip2_splat bit_and v 32 15 fits.0) (λ x h. omega (arith, and_le_r x 15)) are.of_low ∙ masked v)
    (looked_up high (λ half. gf_mul c (half * 16)) (λ x. x / 16) v _ fits (zip2_splat shifted_down v 32 4 fits.0) (λ x h. omega arith) are.of_high) ∙
    summed v
  where
    masked : (v : List ℕ) → map (λ x. gf_mul c (bit_and x 15)) v ≡ map (λ x. gf_mul c (x % 16)) v
    masked [] = refl
    masked (x ∷ xs) = λ i. gf_mul c (and_mask x 4 i) ∷ masked xs i

    summed : (v : List ℕ) → map (λ x. gf_add (gf_mul c (x % 16)) (gf_mul c (x / 16 * 16))) v ≡ map (gf_mul c) v
    summed [] = refl
    summed (x ∷ xs) = λ i. gf_mul_by_halves c x i ∷ summed xs i

-- ---- rows, a vector at a time

-- one more entry is added
pub row_sum_more : (dst src : List ℕ) (i : ℕ) → i < length dst → i < length src
    → set (row_sum dst (take i src)) i (gf_add (get_or (row_sum dst (take i src)) i 0) (get_or src i 0)) ≡ row_sum dst (take (i + 1) src)
row_sum_more dst src i p q = simp (scaled_row-one, one-gf_mul) at (add_scaled_row_more dst 1 src i p q)

first_vector : (c n : ℕ) (dst src : List ℕ) → n ≤ length dst → length dst ≡ length src
    → put_chunk 0 dst (zip2 bit_xor (take n dst) (map (gf_mul c) (take n src))) ≡ add_scaled_row dst c (take n src)
unfolding row_sum scaled_row
first_vector c zero [] src h e = refl
first_vector c zero (x ∷ xs) src h e = refl
first_vector c (suc n) [] src h e = absurd (omega arith)
first_vector c (suc n) (x ∷ xs) [] h e = absurd (omega arith)
first_vector c (suc n) (x ∷ xs) (y ∷ ys) h e = ap (λ zs. gf_add x (gf_mul c y) ∷ zs) (first_vector c n xs ys (omega arith) (omega arith))

-- one more vector is added
pub add_vector : (c n i : ℕ) (dst src : List ℕ) → i + n ≤ length dst → length dst ≡ length src
    → put_chunk i (add_scaled_row dst c (take i src)) (zip2 bit_xor (chunk i n (add_scaled_row dst c (take i src))) (map (gf_mul c) (chunk i n src))) ≡ add_scaled_row dst c (take (i + n) src)
unfolding row_sum scaled_row
add_vector c n zero dst src h e =
    let none = row_sum-nil dst in
    let next : n ≡ 0 + n = omega arith in
    ap (λ row. put_chunk 0 row (zip2 bit_xor (take n row) (map (gf_mul c) (take n src)))) none ∙
    (first_vector c n dst src (omega arith) e ∙ ap (λ m. add_scaled_row dst c (take m src)) next)
add_vector c n (suc i) [] src h e = absurd (omega arith)
add_vector c n (suc i) (x ∷ xs) [] h e = absurd (omega arith)
add_vector c n (suc i) (x ∷ xs) (y ∷ ys) h e =
    let next : suc (i + n) ≡ suc i + n = omega arith in
    ap (λ zs. gf_add x (gf_mul c y) ∷ zs) (add_vector c n i xs ys (omega arith) (omega arith)) ∙
    ap (λ m. add_scaled_row (x ∷ xs) c (take m (y ∷ ys))) next

-- the same where the factor is 1
pub sum_vector : (n i : ℕ) (dst src : List ℕ) → i + n ≤ length dst → length dst ≡ length src
    → put_chunk i (row_sum dst (take i src)) (zip2 bit_xor (chunk i n (row_sum dst (take i src))) (chunk i n src)) ≡ row_sum dst (take (i + n) src)
sum_vector n i dst src h e = simp scaled_row-one at (subst (λ product. put_chunk i (add_scaled_row dst 1 (take i src)) (zip2 bit_xor (chunk i n (add_scaled_row dst 1 (take i src))) product) ≡ add_scaled_row dst 1 (take (i + n) src)) (map-one (chunk i n src)) (add_vector 1 n i dst src h e))
  where
    map-one : (xs : List ℕ) → map (gf_mul 1) xs ≡ xs
    map-one [] = refl
    map-one (x ∷ xs) = λ i. one-gf_mul x i ∷ map-one xs i

-- one more vector is scaled
pub scale_vector : (c n i : ℕ) (row : List ℕ) → i + n ≤ length row
    → put_chunk i (scaled_row c (take i row) ++ drop i row) (map (gf_mul c) (chunk i n (scaled_row c (take i row) ++ drop i row))) ≡ scaled_row c (take (i + n) row) ++ drop (i + n) row
unfolding scaled_row
scale_vector c n zero row h =
    let next : n ≡ 0 + n = omega arith in
    first n row (omega arith) ∙ ap (λ m. map (gf_mul c) (take m row) ++ drop m row) next
  where
    first : (n : ℕ) (row : List ℕ) → n ≤ length row → put_chunk 0 row (map (gf_mul c) (take n row)) ≡ map (gf_mul c) (take n row) ++ drop n row
    first zero [] h = refl
    first zero (x ∷ xs) h = refl
    first (suc n) [] h = absurd (omega arith)
    first (suc n) (x ∷ xs) h = ap (λ zs. gf_mul c x ∷ zs) (first n xs (omega arith))
scale_vector c n (suc i) [] h = absurd (omega arith)
scale_vector c n (suc i) (x ∷ xs) h =
    let next : suc (i + n) ≡ suc i + n = omega arith in
    ap (λ zs. gf_mul c x ∷ zs) (scale_vector c n i xs (omega arith)) ∙
    ap (λ m. scaled_row c (take m (x ∷ xs)) ++ drop m (x ∷ xs)) next

-- ---- a row in two parts

pub add_scaled_row_parts : (c n : ℕ) (dst src : List ℕ) → length dst ≡ length src
    → add_scaled_row (take n dst) c (take n src) ++ add_scaled_row (drop n dst) c (drop n src) ≡ add_scaled_row dst c src
unfolding row_sum scaled_row
add_scaled_row_parts c zero dst src e = refl
add_scaled_row_parts c (suc n) [] [] e = refl
add_scaled_row_parts c (suc n) [] (y ∷ ys) e = absurd (omega arith)
add_scaled_row_parts c (suc n) (x ∷ xs) [] e = absurd (omega arith)
add_scaled_row_parts c (suc n) (x ∷ xs) (y ∷ ys) e = ap (λ zs. gf_add x (gf_mul c y) ∷ zs) (add_scaled_row_parts c n xs ys (omega arith))

pub scaled_row_parts : (c n : ℕ) (row : List ℕ) → scaled_row c (take n row) ++ scaled_row c (drop n row) ≡ scaled_row c row
unfolding scaled_row
scaled_row_parts c zero row = refl
scaled_row_parts c (suc n) [] = refl
scaled_row_parts c (suc n) (x ∷ xs) = ap (λ zs. gf_mul c x ∷ zs) (scaled_row_parts c n xs)

pub row_sum_parts : (n : ℕ) (dst src : List ℕ) → length dst ≡ length src
    → row_sum (take n dst) (take n src) ++ row_sum (drop n dst) (drop n src) ≡ row_sum dst src
row_sum_parts n dst src e = simp scaled_row-one at (add_scaled_row_parts 1 n dst src e)

-- the first w entries were written, and then the others
written_in_parts : (w : ℕ) (xs first second : List ℕ) → w ≤ length xs → length first ≡ w → length second ≡ length xs - w
    → put_mid w (length (first ++ drop w xs) - w) (first ++ drop w xs) second ≡ first ++ second
written_in_parts w xs first second h p q =
    let long : length (first ++ drop w xs) ≡ length xs = omega (arith, length-append first (drop w xs), length-drop w xs) in
    let rest : drop (length (first ++ drop w xs) - w) (drop w (first ++ drop w xs)) ≡ [] =
    ap (drop (length (first ++ drop w xs) - w)) (drop_at first (drop w xs) w p) ∙ drop_all (length (first ++ drop w xs) - w) (drop w xs) (omega (arith, length-drop w xs)) in
    (λ i. take_at first (drop w xs) w p i ++ (second ++ rest i)) ∙ ap (λ zs. first ++ zs) (append-nil second)

-- what the second write finds
found_in_parts : (w : ℕ) (xs first : List ℕ) → w ≤ length xs → length first ≡ w
    → take (length (first ++ drop w xs) - w) (drop w (first ++ drop w xs)) ≡ drop w xs
found_in_parts w xs first h p =
    let long : length (first ++ drop w xs) ≡ length xs = omega (arith, length-append first (drop w xs), length-drop w xs) in
    ap (take (length (first ++ drop w xs) - w)) (drop_at first (drop w xs) w p) ∙ take_all (length (first ++ drop w xs) - w) (drop w xs) (omega (arith, length-drop w xs))

pub add_in_parts : (c w : ℕ) (dst src first second : List ℕ) → w ≤ length dst → length dst ≡ length src
    → first ≡ add_scaled_row (take w dst) c (take w src)
    → second ≡ add_scaled_row (take (length (first ++ drop w dst) - w) (drop w (first ++ drop w dst))) c (take (length src - w) (drop w src))
    → put_mid w (length (first ++ drop w dst) - w) (first ++ drop w dst) second ≡ add_scaled_row dst c src
add_in_parts c w dst src first second h e is_first is_second =
    let p : length first ≡ w = ap length is_first ∙ length-add_scaled_row (take w dst) c (take w src) ∙ length-take-le w dst h in
    let others : take (length src - w) (drop w src) ≡ drop w src = take_all (length src - w) (drop w src) (omega (arith, length-drop w src)) in
    let is : second ≡ add_scaled_row (drop w dst) c (drop w src) = is_second ∙ (λ i. add_scaled_row (found_in_parts w dst first h p i) c (others i)) in
    let q : length second ≡ length dst - w = ap length is ∙ length-add_scaled_row (drop w dst) c (drop w src) ∙ length-drop w dst in
    written_in_parts w dst first second h p q ∙ (λ i. is_first i ++ is i) ∙ add_scaled_row_parts c w dst src e

pub sum_in_parts : (w : ℕ) (dst src first second : List ℕ) → w ≤ length dst → length dst ≡ length src
    → first ≡ row_sum (take w dst) (take w src)
    → second ≡ row_sum (take (length (first ++ drop w dst) - w) (drop w (first ++ drop w dst))) (take (length src - w) (drop w src))
    → put_mid w (length (first ++ drop w dst) - w) (first ++ drop w dst) second ≡ row_sum dst src
sum_in_parts w dst src first second h e is_first is_second =
    let one : (xs ys : List ℕ) → row_sum xs ys ≡ add_scaled_row xs 1 ys = λ xs ys. ap (row_sum xs) (sym (scaled_row-one ys)) in
    add_in_parts 1 w dst src first second h e (is_first ∙ one _ _) (is_second ∙ one _ _) ∙ sym (one dst src)

pub scale_in_parts : (c w : ℕ) (row first second : List ℕ) → w ≤ length row
    → first ≡ scaled_row c (take w row)
    → second ≡ scaled_row c (take (length (first ++ drop w row) - w) (drop w (first ++ drop w row)))
    → put_mid w (length (first ++ drop w row) - w) (first ++ drop w row) second ≡ scaled_row c row
scale_in_parts c w row first second h is_first is_second =
    let p : length first ≡ w = ap length is_first ∙ length-scaled_row c (take w row) ∙ length-take-le w row h in
    let is : second ≡ scaled_row c (drop w row) = is_second ∙ ap (scaled_row c) (found_in_parts w row first h p) in
    let q : length second ≡ length row - w = ap length is ∙ length-scaled_row c (drop w row) ∙ length-drop w row in
    written_in_parts w row first second h p q ∙ (λ i. is_first i ++ is i) ∙ scaled_row_parts c w row

-- ---- sums of some of four elements

-- each element is masked by zeros, which gives the first of its two numbers, or by ones, which gives the second
blended : (a0 a1 b0 b1 c0 c1 d0 d1 : ℕ) → List ℕ
blended a0 a1 b0 b1 c0 c1 d0 d1 =
    entry a0 b0 c0 d0 ∷ entry a1 b0 c0 d0 ∷ entry a0 b1 c0 d0 ∷ entry a1 b1 c0 d0 ∷
    entry a0 b0 c1 d0 ∷ entry a1 b0 c1 d0 ∷ entry a0 b1 c1 d0 ∷ entry a1 b1 c1 d0 ∷
    entry a0 b0 c0 d1 ∷ entry a1 b0 c0 d1 ∷ entry a0 b1 c0 d1 ∷ entry a1 b1 c0 d1 ∷
    entry a0 b0 c1 d1 ∷ entry a1 b0 c1 d1 ∷ entry a0 b1 c1 d1 ∷ entry a1 b1 c1 d1 ∷ []
  where
    entry : ℕ → ℕ → ℕ → ℕ → ℕ
    entry a b c d = gf_add (gf_add (gf_add a b) c) d

blended_is : (a b c d : ℕ) → blended 0 a 0 b 0 c 0 d ≡ four_sums a b c d
unfolding blended
blended_is a b c d = simp (gf_add-zero, zero-gf_add)

masked : (x : ℕ) → Fits w8 x → (bit_and x 0 ≡ 0) × (bit_and x 255 ≡ x)
masked x fits = (and_zero_r x, and_mask x 8 ∙ mod-eq_of_lt fits.fits)

pub masked_sums : (a b c d : ℕ) → Fits w8 a → Fits w8 b → Fits w8 c → Fits w8 d
    → zip2 bit_xor (zip2 bit_xor (zip2 bit_xor (zip2 bit_and (replicate 32 a) BIT_0) (zip2 bit_and (replicate 32 b) BIT_1)) (zip2 bit_and (replicate 32 c) BIT_2)) (zip2 bit_and (replicate 32 d) BIT_3)
    ≡ four_sums a b c d ++ four_sums a b c d
unfolding blended
masked_sums a b c d fa fb fc fd =
    let A = masked a fa in
    let B = masked b fb in
    let C = masked c fc in
    let D = masked d fd in
    let both : blended (bit_and a 0) (bit_and a 255) (bit_and b 0) (bit_and b 255) (bit_and c 0) (bit_and c 255) (bit_and d 0) (bit_and d 255) ≡ four_sums a b c d =
    (λ i. blended (A.0 i) (A.1 i) (B.0 i) (B.1 i) (C.0 i) (C.1 i) (D.0 i) (D.1 i)) ∙ blended_is a b c d in
    ap (λ xs. xs ++ xs) both
