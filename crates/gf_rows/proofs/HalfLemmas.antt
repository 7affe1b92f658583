-- A product is the sum of the products with the two halves of a byte, which stand in two tables of 16.
use Rattle.std.proofs.Common.{ℕ, zero, suc, ◌≡◌, ◌<◌, ◌≤◌, ◌+◌, ◌*◌, ◌/◌, ◌%◌, ◌^◌, ◌∙◌, List, [], ◌∷◌, ◌++◌, length, get_or, sym, ap, inl, inr, refl, arith, lit<}
use Rattle.std.proofs.lemmas.Bool.{cases_lt}
use Rattle.std.proofs.Math.ListN.{get_or-append}
use Rattle.std.proofs.lemmas.List.{get_or-append-add}
use Rattle.std.proofs.lemmas.Nat.{xor_block, mod_below}
use Rattle.gf_core.specs.Field.{gf_add, gf_mul, doubled}
use Rattle.gf_core.proofs.AddLemmas.{gf_add-zero, zero-gf_add}
use Rattle.gf_core.proofs.ProductLemmas.{gf_mul-zero, gf_mul-one, gf_mul-gf_add, gf_mul-doubled}
use Rattle.gf_core.proofs.DoubleLemmas.{doubled-one}
use Rattle.gf_rows.specs.HalfProducts.{four_sums, AreProducts}

-- 16 times a sum
times_16-gf_add : (a b : ℕ) → gf_add a b * 16 ≡ gf_add (a * 16) (b * 16)
times_16-gf_add a b =
    let e : gf_add (a * 2 ^ 4 + 0) (b * 2 ^ 4 + 0) ≡ gf_add a b * 2 ^ 4 + gf_add 0 0 = xor_block 4 a b 0 0 (lit< tt) (lit< tt) in
    simp Rattle.std.proofs.Common.add-zero at (sym e)

-- a number is the sum of its low half and its high half
pub halves_sum : (b : ℕ) → gf_add (b % 16) (b / 16 * 16) ≡ b
halves_sum b =
    let e : gf_add (0 * 2 ^ 4 + b % 16) (b / 16 * 2 ^ 4 + 0) ≡ gf_add 0 (b / 16) * 2 ^ 4 + gf_add (b % 16) 0 =
    xor_block 4 0 (b / 16) (b % 16) 0 (mod_below b 16 (lit< tt)) (lit< tt) in
    let left : 0 * 2 ^ 4 + b % 16 ≡ b % 16 = omega arith in
    let right : b / 16 * 2 ^ 4 + 0 ≡ b / 16 * 16 = omega arith in
    sym (ap (λ x. gf_add x (b / 16 * 16)) left) ∙
    (sym (ap (gf_add (0 * 2 ^ 4 + b % 16)) right) ∙
    (e ∙ (ap (λ x. x * 16 + gf_add (b % 16) 0) (zero-gf_add (b / 16)) ∙ (ap (λ x. b / 16 * 16 + x) (gf_add-zero (b % 16)) ∙ omega arith))))

-- the product with a byte is the sum of the products with its halves
pub gf_mul_by_halves : (c b : ℕ) → gf_add (gf_mul c (b % 16)) (gf_mul c (b / 16 * 16)) ≡ gf_mul c b
gf_mul_by_halves c b = sym (gf_mul-gf_add c (b % 16) (b / 16 * 16)) ∙ ap (gf_mul c) (halves_sum b)

-- what keeps 0 and sums of two takes the numbers below 16 to the sums of some of four
sums_of_linear : (f : ℕ → ℕ) → f 0 ≡ 0 → ((a b : ℕ) → f (gf_add a b) ≡ gf_add (f a) (f b))
    → (k : ℕ) → k < 16 → get_or (four_sums (f 1) (f 2) (f 4) (f 8)) k 0 ≡ f k
sums_of_linear f at_zero at_sum zero h = sym at_zero
sums_of_linear f at_zero at_sum (suc zero) h = refl
sums_of_linear f at_zero at_sum (suc (suc zero)) h = refl
sums_of_linear f at_zero at_sum (suc (suc (suc zero))) h = sym (at_sum 1 2)
sums_of_linear f at_zero at_sum (suc (suc (suc (suc zero)))) h = refl
sums_of_linear f at_zero at_sum (suc (suc (suc (suc (suc zero))))) h = sym (at_sum 1 4)
sums_of_linear f at_zero at_sum (suc (suc (suc (suc (suc (suc zero)))))) h = sym (at_sum 2 4)
sums_of_linear f at_zero at_sum (suc (suc (suc (suc (suc (suc (suc zero))))))) h = sym (at_sum 3 4 ∙ ap (λ x. gf_add x (f 4)) (at_sum 1 2))
sums_of_linear f at_zero at_sum (suc (suc (suc (suc (suc (suc (suc (suc zero)))))))) h = refl
sums_of_linear f at_zero at_sum (suc (suc (suc (suc (suc (suc (suc (suc (suc zero))))))))) h = sym (at_sum 1 8)
sums_of_linear f at_zero at_sum (suc (suc (suc (suc (suc (suc (suc (suc (suc (suc zero)))))))))) h = sym (at_sum 2 8)
sums_of_linear f at_zero at_sum (suc (suc (suc (suc (suc (suc (suc (suc (suc (suc (suc zero))))))))))) h = sym (at_sum 3 8 ∙ ap (λ x. gf_add x (f 8)) (at_sum 1 2))
sums_of_linear f at_zero at_sum (suc (suc (suc (suc (suc (suc (suc (suc (suc (suc (suc (suc zero)))))))))))) h = sym (at_sum 4 8)
sums_of_linear f at_zero at_sum (suc (suc (suc (suc (suc (suc (suc (suc (suc (suc (suc (suc (suc zero))))))))))))) h = sym (at_sum 5 8 ∙ ap (λ x. gf_add x (f 8)) (at_sum 1 4))
sums_of_linear f at_zero at_sum (suc (suc (suc (suc (suc (suc (suc (suc (suc (suc (suc (suc (suc (suc zero)))))))))))))) h = sym (at_sum 6 8 ∙ ap (λ x. gf_add x (f 8)) (at_sum 2 4))
sums_of_linear f at_zero at_sum (suc (suc (suc (suc (suc (suc (suc (suc (suc (suc (suc (suc (suc (suc (suc zero))))))))))))))) h = sym (at_sum 7 8 ∙ ap (λ x. gf_add x (f 8)) (at_sum 3 4 ∙ ap (λ x. gf_add x (f 4)) (at_sum 1 2)))
sums_of_linear f at_zero at_sum (suc (suc (suc (suc (suc (suc (suc (suc (suc (suc (suc (suc (suc (suc (suc (suc k)))))))))))))))) h = absurd (omega arith)

-- an entry of a list of 16 that stands twice
twice : (xs : List ℕ) (lane half : ℕ) → length xs ≡ 16 → lane < 32 → half < 16 → get_or (xs ++ xs) (16 * (lane / 16) + half) 0 ≡ get_or xs half 0
twice xs lane half e p q =
    elim (cases_lt lane 16) [
      | inl first ↦
          let at : 16 * (lane / 16) + half ≡ half = omega arith in
          ap (λ i. get_or (xs ++ xs) i 0) at ∙ get_or-append xs xs 0 half (omega arith)
      | inr second ↦
          let at : 16 * (lane / 16) + half ≡ length xs + half = omega arith in
          ap (λ i. get_or (xs ++ xs) i 0) at ∙ get_or-append-add xs xs half 0
    ]

-- an element doubled n times is its product with that power of x
doubled_is : (c n : ℕ) → c < 256 → n < 8 → doubled n c ≡ gf_mul c (2 ^ n)
doubled_is c n p h =
    ap (doubled n) (sym (gf_mul-one c p)) ∙ (sym (gf_mul-doubled n c 1) ∙ ap (gf_mul c) (doubled-one n h))

-- the two tables made by doubling
pub AreProducts-of_doubles : (c : ℕ) → c < 256
    → AreProducts c (four_sums c (doubled 1 c) (doubled 2 c) (doubled 3 c) ++ four_sums c (doubled 1 c) (doubled 2 c) (doubled 3 c))
    (four_sums (doubled 4 c) (doubled 5 c) (doubled 6 c) (doubled 7 c) ++ four_sums (doubled 4 c) (doubled 5 c) (doubled 6 c) (doubled 7 c))
AreProducts-of_doubles c p = record {
  of_low = λ lane half l h.
      twice (four_sums c (doubled 1 c) (doubled 2 c) (doubled 3 c)) lane half refl l h ∙
      (ap (λ t. get_or t half 0) low_is ∙ sums_of_linear (gf_mul c) (gf_mul-zero c) (gf_mul-gf_add c) half h);
  of_high = λ lane half l h.
      twice (four_sums (doubled 4 c) (doubled 5 c) (doubled 6 c) (doubled 7 c)) lane half refl l h ∙
      (ap (λ t. get_or t half 0) high_is ∙
      sums_of_linear (λ b. gf_mul c (b * 16)) (gf_mul-zero c) (λ a b. ap (gf_mul c) (times_16-gf_add a b) ∙ gf_mul-gf_add c (a * 16) (b * 16)) half h);
}
  where
    by : (n : ℕ) → n < 8 → doubled n c ≡ gf_mul c (2 ^ n)
    by n h = doubled_is c n p h

    low_is : four_sums c (doubled 1 c) (doubled 2 c) (doubled 3 c) ≡ four_sums (gf_mul c 1) (gf_mul c 2) (gf_mul c 4) (gf_mul c 8)
    low_is = λ i. four_sums (sym (gf_mul-one c p) i) (by 1 (lit< tt) i) (by 2 (lit< tt) i) (by 3 (lit< tt) i)

    high_is : four_sums (doubled 4 c) (doubled 5 c) (doubled 6 c) (doubled 7 c) ≡ four_sums (gf_mul c 16) (gf_mul c 32) (gf_mul c 64) (gf_mul c 128)
    high_is = λ i. four_sums (by 4 (lit< tt) i) (by 5 (lit< tt) i) (by 6 (lit< tt) i) (by 7 (lit< tt) i)
