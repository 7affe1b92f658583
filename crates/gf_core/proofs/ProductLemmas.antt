-- The product: it keeps sums on both sides, over all numbers, and over bytes it is commutative and associative.
use Rattle.std.proofs.Common.{ℕ, zero, suc, ◌≡◌, ◌≢◌, ◌<◌, ◌+◌, ◌*◌, ◌%◌, ◌^◌, ◌∙◌, sym, ap, refl, arith, lit<}
use Rattle.std.specs.Int.{bit_at}
use Rattle.std.proofs.lemmas.Nat.{xor_block, mod-pow-add, mod_below, pow_pos}
use Rattle.std.proofs.lemmas.Nat.Bits.{bit_at-lt, bit_at-zero, bit_at_above}
use Rattle.gf_core.specs.Field.{gf_add, gf_sum, gf_mul, product_term, double, doubled}
use Rattle.gf_core.proofs.AddLemmas.{gf_add-zero}
use Rattle.gf_core.proofs.DoubleLemmas.{picked, picked_of_zero, picked_of_clear, picked-gf_add, picked-lt, picked_by_bits, picked_through, double-zero, double-gf_add, double-lt, doubled-lt, doubled-zero, doubled-gf_add, doubled-inside, doubled-one}
use Rattle.gf_core.proofs.SumLemmas.{gf_sum-lt, gf_sum-congruence, gf_sum-zeros, gf_sum-one, gf_sum-gf_add, gf_sum-more, gf_sum_of_linear}

-- the term of a bit that is set
pub product_term_of_set : (a b i : ℕ) → bit_at a i ≡ 1 → product_term a b i ≡ doubled i b
unfolding product_term
product_term_of_set a b i h = rw h refl

-- the term of a bit that is not set
pub product_term_of_clear : (a b i : ℕ) → bit_at a i ≢ 1 → product_term a b i ≡ 0
unfolding product_term
product_term_of_clear a b i h = picked_of_clear (bit_at a i) (doubled i b) (bit_at-lt a i) h

-- one more bit of a, which is set, or is not
pub product_sum_of_set : (a b i : ℕ) → bit_at a i ≡ 1 → gf_add (gf_sum i (product_term a b)) (doubled i b) ≡ gf_sum (i + 1) (product_term a b)
product_sum_of_set a b i h =
    ap (gf_add (gf_sum i (product_term a b))) (sym (product_term_of_set a b i h)) ∙ sym (gf_sum-more i (product_term a b))

pub product_sum_of_clear : (a b i : ℕ) → bit_at a i ≢ 1 → gf_sum i (product_term a b) ≡ gf_sum (i + 1) (product_term a b)
product_sum_of_clear a b i h =
    sym (gf_sum-more i (product_term a b) ∙ (ap (gf_add (gf_sum i (product_term a b))) (product_term_of_clear a b i h) ∙ gf_add-zero (gf_sum i (product_term a b))))

-- the product with a byte is a byte
pub gf_mul-lt : (a b : ℕ) → b < 256 → gf_mul a b < 256
unfolding gf_mul product_term
gf_mul-lt a b h = gf_sum-lt 8 (product_term a b) (λ i p. picked-lt (bit_at a i) (doubled i b) (doubled-lt i b h))

pub zero-gf_mul : (b : ℕ) → gf_mul 0 b ≡ 0
unfolding gf_mul product_term
zero-gf_mul b =
    gf_sum-zeros 8 (product_term 0 b) (λ i p. ap (λ bit. picked bit (doubled i b)) (bit_at-zero i))

pub gf_mul-zero : (a : ℕ) → gf_mul a 0 ≡ 0
unfolding gf_mul product_term
gf_mul-zero a =
    gf_sum-zeros 8 (product_term a 0) (λ i p. ap (picked (bit_at a i)) (doubled-zero i) ∙ picked_of_zero (bit_at a i))

-- products spread over sums on the left
pub gf_mul-gf_add_left : (a b c : ℕ) → gf_mul (gf_add a b) c ≡ gf_add (gf_mul a c) (gf_mul b c)
unfolding gf_mul product_term
gf_mul-gf_add_left a b c =
    gf_sum-congruence 8 (product_term (gf_add a b) c) (λ i. gf_add (product_term a c i) (product_term b c i)) (λ i p. picked_by_bits a b i (doubled i c)) ∙
    gf_sum-gf_add 8 (product_term a c) (product_term b c)

-- products spread over sums on the right
pub gf_mul-gf_add : (a b c : ℕ) → gf_mul a (gf_add b c) ≡ gf_add (gf_mul a b) (gf_mul a c)
unfolding gf_mul product_term
gf_mul-gf_add a b c =
    gf_sum-congruence 8 (product_term a (gf_add b c))
    (λ i. gf_add (product_term a b i) (product_term a c i))
    (λ i p. ap (picked (bit_at a i)) (doubled-gf_add i b c) ∙ picked-gf_add (bit_at a i) (doubled i b) (doubled i c)) ∙
    gf_sum-gf_add 8 (product_term a b) (product_term a c)

-- a product with a sum is the sum of the products
pub gf_mul-gf_sum : (c n : ℕ) (f : ℕ → ℕ) → gf_mul c (gf_sum n f) ≡ gf_sum n (λ i. gf_mul c (f i))
gf_mul-gf_sum c n f = gf_sum_of_linear (gf_mul c) (gf_mul-zero c) (gf_mul-gf_add c) n f

pub gf_mul-gf_sum_left : (n : ℕ) (f : ℕ → ℕ) (c : ℕ) → gf_mul (gf_sum n f) c ≡ gf_sum n (λ i. gf_mul (f i) c)
gf_mul-gf_sum_left n f c = gf_sum_of_linear (λ a. gf_mul a c) (zero-gf_mul c) (λ a b. gf_mul-gf_add_left a b c) n f

-- a product doubles with its right factor
pub gf_mul-double : (a b : ℕ) → gf_mul a (double b) ≡ double (gf_mul a b)
unfolding gf_mul product_term
gf_mul-double a b =
    gf_sum-congruence 8 (product_term a (double b)) (λ i. double (product_term a b i))
    (λ i p. ap (picked (bit_at a i)) (doubled-inside i b) ∙ sym (picked_through double double-zero (bit_at a i) (doubled i b))) ∙
    sym (gf_sum_of_linear double double-zero double-gf_add 8 (product_term a b))

pub gf_mul-doubled : (n a b : ℕ) → gf_mul a (doubled n b) ≡ doubled n (gf_mul a b)
unfolding doubled
gf_mul-doubled zero a b = refl
gf_mul-doubled (suc n) a b = gf_mul-double a (doubled n b) ∙ ap double (gf_mul-doubled n a b)

first_term_of_one : (b : ℕ) → product_term 1 b 0 ≡ b
unfolding product_term doubled
first_term_of_one b = refl

-- 1 on the left changes nothing
pub one-gf_mul : (b : ℕ) → gf_mul 1 b ≡ b
unfolding gf_mul
one-gf_mul b =
    gf_sum-one 8 (product_term 1 b) 0 (lit< tt) (λ i p h. product_term_of_clear 1 b i (other i h)) ∙ first_term_of_one b
  where
    other : (i : ℕ) → i ≢ 0 → bit_at 1 i ≢ 1
    other i h e = let z = bit_at_above 1 1 i (lit< tt) (omega arith) in omega arith

-- a bit above the bits of r
bit_above : (n r bit : ℕ) → r < 2 ^ n → bit < 2 → gf_add r (picked bit (2 ^ n)) ≡ bit * 2 ^ n + r
bit_above n r zero p q = gf_add-zero r ∙ omega arith
bit_above n r (suc zero) p q =
    let e : gf_add (0 * 2 ^ n + r) (1 * 2 ^ n + 0) ≡ 1 * 2 ^ n + gf_add r 0 = xor_block n 0 1 r 0 p (pow_pos n) in
    let left : 0 * 2 ^ n + r ≡ r = omega arith in
    let right : 1 * 2 ^ n + 0 ≡ 2 ^ n = omega arith in
    sym (ap (λ x. gf_add x (2 ^ n)) left) ∙ (sym (ap (gf_add (0 * 2 ^ n + r)) right) ∙ (e ∙ ap (λ x. 1 * 2 ^ n + x) (gf_add-zero r)))
bit_above n r (suc (suc bit)) p q = absurd (omega arith)

-- the sum of the bits below n of a number, each at its place
bits_sum : (n a : ℕ) → gf_sum n (λ i. picked (bit_at a i) (2 ^ i)) ≡ a % 2 ^ n
unfolding gf_sum
bits_sum zero a = omega arith
bits_sum (suc n) a =
    ap (λ s. gf_add s (picked (bit_at a n) (2 ^ n))) (bits_sum n a) ∙
    (bit_above n (a % 2 ^ n) (bit_at a n) (mod_below a (2 ^ n) (pow_pos n)) (bit_at-lt a n) ∙
    (sym (mod-pow-add a 1 n) ∙ (let e : 1 + n ≡ suc n = omega arith in ap (λ k. a % 2 ^ k) e)))

-- 1 on the right changes no byte
pub gf_mul-one : (a : ℕ) → a < 256 → gf_mul a 1 ≡ a
unfolding gf_mul product_term
gf_mul-one a h =
    gf_sum-congruence 8 (product_term a 1) (λ i. picked (bit_at a i) (2 ^ i)) (λ i p. ap (picked (bit_at a i)) (doubled-one i p)) ∙
    (bits_sum 8 a ∙ omega arith)

-- a byte is the sum of its bits as powers of x
byte_as_sum : (b : ℕ) → b < 256 → b ≡ gf_sum 8 (λ i. picked (bit_at b i) (doubled i 1))
unfolding gf_mul product_term
byte_as_sum b h = sym (gf_mul-one b h)

pub gf_mul_comm : (a b : ℕ) → a < 256 → b < 256 → gf_mul a b ≡ gf_mul b a
unfolding gf_mul product_term
gf_mul_comm a b p q =
    ap (gf_mul a) (byte_as_sum b q) ∙
    (gf_mul-gf_sum a 8 (λ i. picked (bit_at b i) (doubled i 1)) ∙
    gf_sum-congruence 8 (λ i. gf_mul a (picked (bit_at b i) (doubled i 1))) (product_term b a)
    (λ i h. picked_through (gf_mul a) (gf_mul-zero a) (bit_at b i) (doubled i 1) ∙ ap (picked (bit_at b i)) (gf_mul-doubled i a 1 ∙ ap (doubled i) (gf_mul-one a p))))

-- a product doubles with its left factor
pub gf_mul-double_left : (a b : ℕ) → a < 256 → b < 256 → gf_mul (double a) b ≡ double (gf_mul a b)
gf_mul-double_left a b p q = gf_mul_comm (double a) b (double-lt a) q ∙ (gf_mul-double b a ∙ ap double (gf_mul_comm b a q p))

pub gf_mul-doubled_left : (n a b : ℕ) → a < 256 → b < 256 → gf_mul (doubled n a) b ≡ doubled n (gf_mul a b)
gf_mul-doubled_left n a b p q = gf_mul_comm (doubled n a) b (doubled-lt n a p) q ∙ (gf_mul-doubled n b a ∙ ap (doubled n) (gf_mul_comm b a q p))

pub gf_mul_assoc : (a b c : ℕ) → b < 256 → c < 256 → gf_mul (gf_mul a b) c ≡ gf_mul a (gf_mul b c)
unfolding gf_mul product_term
gf_mul_assoc a b c q r =
    gf_mul-gf_sum_left 8 (product_term a b) c ∙
    gf_sum-congruence 8 (λ i. gf_mul (product_term a b i) c) (product_term a (gf_mul b c))
    (λ i h. picked_through (λ x. gf_mul x c) (zero-gf_mul c) (bit_at a i) (doubled i b) ∙ ap (picked (bit_at a i)) (gf_mul-doubled_left i b c q r))

pub gf_mul_left_comm : (a b c : ℕ) → a < 256 → b < 256 → c < 256 → gf_mul a (gf_mul b c) ≡ gf_mul b (gf_mul a c)
gf_mul_left_comm a b c p q r =
    sym (gf_mul_assoc a b c q r) ∙ (ap (λ x. gf_mul x c) (gf_mul_comm a b p q) ∙ gf_mul_assoc b a c p r)
