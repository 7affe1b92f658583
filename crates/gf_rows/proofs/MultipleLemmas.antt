-- Sums of multiples of several rows.
use Rattle.std.proofs.Common.{ℕ, zero, suc, ◌≡◌, ◌-◌, ◌∙◌, List, [], ◌∷◌, length, take, drop, map, bit_xor, sym, ap, refl, arith}
use Rattle.std.proofs.lemmas.List.{length-drop, take_all}
use lib.Lanes.{zip2, chunk}
use Rattle.gf_core.specs.Field.{gf_add, gf_mul}
use Rattle.gf_core.specs.Rows.{row_sum, scaled_row, add_scaled_row}
use Rattle.gf_core.proofs.CombinationLemmas.{take-row_sum}
use Rattle.gf_core.proofs.RowLemmas.{row_sum-nil, length-row_sum, length-scaled_row, row_sum_assoc}
use Rattle.gf_rows.specs.Multiples.{sum_of_four}

pub length-sum_of_four : (ca : ℕ) (a : List ℕ) (cb : ℕ) (b : List ℕ) (cc : ℕ) (c : List ℕ) (cd : ℕ) (d : List ℕ) → length (sum_of_four ca a cb b cc c cd d) ≡ length a
unfolding sum_of_four
length-sum_of_four ca a cb b cc c cd d =
    let ab = row_sum (scaled_row ca a) (scaled_row cb b) in
    length-row_sum (row_sum ab (scaled_row cc c)) (scaled_row cd d) ∙ length-row_sum ab (scaled_row cc c) ∙ length-row_sum (scaled_row ca a) (scaled_row cb b) ∙ length-scaled_row ca a

-- the sum, added at once, is the four multiples added one after another
pub row_sum-sum_of_four : (dst : List ℕ) (ca : ℕ) (a : List ℕ) (cb : ℕ) (b : List ℕ) (cc : ℕ) (c : List ℕ) (cd : ℕ) (d : List ℕ)
    → length a ≡ length b → length a ≡ length c → length a ≡ length d
    → row_sum dst (sum_of_four ca a cb b cc c cd d) ≡ add_scaled_row (add_scaled_row (add_scaled_row (add_scaled_row dst ca a) cb b) cc c) cd d
unfolding sum_of_four
row_sum-sum_of_four dst ca a cb b cc c cd d eb ec ed =
    let A = scaled_row ca a in
    let B = scaled_row cb b in
    let C = scaled_row cc c in
    let D = scaled_row cd d in
    let AB = row_sum A B in
    let ABC = row_sum AB C in
    let lb : length A ≡ length B = length-scaled_row ca a ∙ eb ∙ sym (length-scaled_row cb b) in
    let lc : length AB ≡ length C = length-row_sum A B ∙ length-scaled_row ca a ∙ ec ∙ sym (length-scaled_row cc c) in
    let ld : length ABC ≡ length D = length-row_sum AB C ∙ length-row_sum A B ∙ length-scaled_row ca a ∙ ed ∙ sym (length-scaled_row cd d) in
    sym (row_sum_assoc dst ABC D ld) ∙
    ap (λ row. row_sum row D) (sym (row_sum_assoc dst AB C lc) ∙ ap (λ row. row_sum row C) (sym (row_sum_assoc dst A B lb)))

-- the first vector of what lies from a place on
pub chunk-rest : (i n : ℕ) (xs : List ℕ) → chunk 0 n (take (length xs - i) (drop i xs)) ≡ chunk i n xs
chunk-rest i n xs = ap (take n) (take_all (length xs - i) (drop i xs) (omega (arith, length-drop i xs)))

-- the vector of a sum is the sum of the vectors
chunk-row_sum : (i n : ℕ) (xs ys : List ℕ) → length xs ≡ length ys → chunk i n (row_sum xs ys) ≡ zip2 bit_xor (chunk i n xs) (chunk i n ys)
unfolding row_sum
chunk-row_sum zero zero xs ys e = refl
chunk-row_sum zero (suc n) [] [] e = refl
chunk-row_sum zero (suc n) [] (y ∷ ys) e = absurd (omega arith)
chunk-row_sum zero (suc n) (x ∷ xs) [] e = absurd (omega arith)
chunk-row_sum zero (suc n) (x ∷ xs) (y ∷ ys) e = ap (λ zs. gf_add x y ∷ zs) (chunk-row_sum zero n xs ys (omega arith))
chunk-row_sum (suc i) zero [] [] e = refl
chunk-row_sum (suc i) (suc n) [] [] e = refl
chunk-row_sum (suc i) n [] (y ∷ ys) e = absurd (omega arith)
chunk-row_sum (suc i) n (x ∷ xs) [] e = absurd (omega arith)
chunk-row_sum (suc i) n (x ∷ xs) (y ∷ ys) e = chunk-row_sum i n xs ys (omega arith)

chunk-scaled_row : (i n c : ℕ) (xs : List ℕ) → chunk i n (scaled_row c xs) ≡ map (gf_mul c) (chunk i n xs)
unfolding scaled_row
chunk-scaled_row zero zero c xs = refl
chunk-scaled_row zero (suc n) c [] = refl
chunk-scaled_row zero (suc n) c (x ∷ xs) = ap (λ zs. gf_mul c x ∷ zs) (chunk-scaled_row zero n c xs)
chunk-scaled_row (suc i) zero c [] = refl
chunk-scaled_row (suc i) (suc n) c [] = refl
chunk-scaled_row (suc i) n c (x ∷ xs) = chunk-scaled_row i n c xs

pub chunk-sum_of_four : (i n ca : ℕ) (a : List ℕ) (cb : ℕ) (b : List ℕ) (cc : ℕ) (c : List ℕ) (cd : ℕ) (d : List ℕ)
    → length a ≡ length b → length a ≡ length c → length a ≡ length d
    → zip2 bit_xor (zip2 bit_xor (zip2 bit_xor (map (gf_mul ca) (chunk i n a)) (map (gf_mul cb) (chunk i n b))) (map (gf_mul cc) (chunk i n c))) (map (gf_mul cd) (chunk i n d))
    ≡ chunk i n (sum_of_four ca a cb b cc c cd d)
unfolding sum_of_four
chunk-sum_of_four i n ca a cb b cc c cd d eb ec ed =
    let A = scaled_row ca a in
    let B = scaled_row cb b in
    let C = scaled_row cc c in
    let D = scaled_row cd d in
    let AB = row_sum A B in
    let ABC = row_sum AB C in
    let lb : length A ≡ length B = length-scaled_row ca a ∙ eb ∙ sym (length-scaled_row cb b) in
    let lc : length AB ≡ length C = length-row_sum A B ∙ length-scaled_row ca a ∙ ec ∙ sym (length-scaled_row cc c) in
    let ld : length ABC ≡ length D = length-row_sum AB C ∙ length-row_sum A B ∙ length-scaled_row ca a ∙ ed ∙ sym (length-scaled_row cd d) in
    (λ k. zip2 bit_xor (zip2 bit_xor (zip2 bit_xor (sym (chunk-scaled_row i n ca a) k) (sym (chunk-scaled_row i n cb b) k)) (sym (chunk-scaled_row i n cc c) k)) (sym (chunk-scaled_row i n cd d) k)) ∙
    ap (λ zs. zip2 bit_xor (zip2 bit_xor zs (chunk i n C)) (chunk i n D)) (sym (chunk-row_sum i n A B lb)) ∙
    ap (λ zs. zip2 bit_xor zs (chunk i n D)) (sym (chunk-row_sum i n AB C lc)) ∙
    sym (chunk-row_sum i n ABC D ld)

-- ---- the sum in two parts

drop-row_sum : (n : ℕ) (xs ys : List ℕ) → row_sum (drop n xs) (drop n ys) ≡ drop n (row_sum xs ys)
unfolding row_sum
drop-row_sum zero xs ys = refl
drop-row_sum (suc n) [] ys = refl
drop-row_sum (suc n) (x ∷ xs) [] = row_sum-nil (drop n xs)
drop-row_sum (suc n) (x ∷ xs) (y ∷ ys) = drop-row_sum n xs ys

take-scaled_row : (n c : ℕ) (xs : List ℕ) → scaled_row c (take n xs) ≡ take n (scaled_row c xs)
unfolding scaled_row
take-scaled_row zero c xs = refl
take-scaled_row (suc n) c [] = refl
take-scaled_row (suc n) c (x ∷ xs) = ap (λ zs. gf_mul c x ∷ zs) (take-scaled_row n c xs)

drop-scaled_row : (n c : ℕ) (xs : List ℕ) → scaled_row c (drop n xs) ≡ drop n (scaled_row c xs)
unfolding scaled_row
drop-scaled_row zero c xs = refl
drop-scaled_row (suc n) c [] = refl
drop-scaled_row (suc n) c (x ∷ xs) = drop-scaled_row n c xs

-- what is true of a part of each row is true of the part of the sum, where the part keeps sums and multiples
part_of_sum : (part : List ℕ → List ℕ) → ((xs ys : List ℕ) → row_sum (part xs) (part ys) ≡ part (row_sum xs ys)) → ((c : ℕ) (xs : List ℕ) → scaled_row c (part xs) ≡ part (scaled_row c xs))
    → (ca : ℕ) (a : List ℕ) (cb : ℕ) (b : List ℕ) (cc : ℕ) (c : List ℕ) (cd : ℕ) (d : List ℕ)
    → sum_of_four ca (part a) cb (part b) cc (part c) cd (part d) ≡ part (sum_of_four ca a cb b cc c cd d)
unfolding sum_of_four
part_of_sum part sums multiples ca a cb b cc c cd d =
    let A = scaled_row ca a in
    let B = scaled_row cb b in
    let C = scaled_row cc c in
    let D = scaled_row cd d in
    (λ k. row_sum (row_sum (row_sum (multiples ca a k) (multiples cb b k)) (multiples cc c k)) (multiples cd d k)) ∙
    ap (λ zs. row_sum (row_sum zs (part C)) (part D)) (sums A B) ∙
    ap (λ zs. row_sum zs (part D)) (sums (row_sum A B) C) ∙
    sums (row_sum (row_sum A B) C) D

pub take-sum_of_four : (n ca : ℕ) (a : List ℕ) (cb : ℕ) (b : List ℕ) (cc : ℕ) (c : List ℕ) (cd : ℕ) (d : List ℕ)
    → sum_of_four ca (take n a) cb (take n b) cc (take n c) cd (take n d) ≡ take n (sum_of_four ca a cb b cc c cd d)
take-sum_of_four n = part_of_sum (take n) (λ xs ys. sym (take-row_sum n xs ys)) (take-scaled_row n)

pub drop-sum_of_four : (n ca : ℕ) (a : List ℕ) (cb : ℕ) (b : List ℕ) (cc : ℕ) (c : List ℕ) (cd : ℕ) (d : List ℕ)
    → sum_of_four ca (drop n a) cb (drop n b) cc (drop n c) cd (drop n d) ≡ drop n (sum_of_four ca a cb b cc c cd d)
drop-sum_of_four n = part_of_sum (drop n) (drop-row_sum n) (drop-scaled_row n)
