-- The double of an element, and an element doubled n times. Both keep sums, over all numbers.
use Rattle.std.proofs.Common.{ℕ, zero, suc, ◌≡◌, ◌≢◌, ◌<◌, ◌+◌, ◌*◌, ◌%◌, ◌^◌, ◌∙◌, ◌==◌, if◌then◌else◌, sym, ap, refl, arith, add-zero, add-one, zero-add, Bool, true, false, lit<}
use Rattle.std.specs.Int.{bit_at}
use Rattle.std.proofs.lemmas.Nat.{xor_block, xor_mod, mod_below}
use Rattle.std.proofs.lemmas.Nat.Bits.{bit_at_xor, bit_at-lt}
use Rattle.gf_core.specs.Field.{gf_add, double, doubled}
use Rattle.gf_core.proofs.AddLemmas.{gf_add-lt, gf_add_self, gf_add-zero, zero-gf_add, gf_add_add_comm}

-- an element where the bit is 1, and else 0
abbrev pub picked : ℕ → ℕ → ℕ
picked bit a = if bit == 1 then a else 0

kept_of_zero : (b : Bool) (x : ℕ) → x ≡ 0 → (if b then x else 0) ≡ 0
kept_of_zero true x h = h
kept_of_zero false x h = refl

kept-gf_add : (b : Bool) (x y : ℕ) → (if b then gf_add x y else 0) ≡ gf_add (if b then x else 0) (if b then y else 0)
kept-gf_add true x y = refl
kept-gf_add false x y = refl

kept-lt : (b : Bool) (x : ℕ) → x < 256 → (if b then x else 0) < 256
kept-lt true x h = h
kept-lt false x h = lit< tt

kept_through : (h : ℕ → ℕ) → h 0 ≡ 0 → (b : Bool) (x : ℕ) → h (if b then x else 0) ≡ (if b then h x else 0)
kept_through h at_zero true x = refl
kept_through h at_zero false x = at_zero

pub picked_of_zero : (bit : ℕ) → picked bit 0 ≡ 0
picked_of_zero bit = kept_of_zero (bit == 1) 0 refl

pub picked-gf_add : (bit a b : ℕ) → picked bit (gf_add a b) ≡ gf_add (picked bit a) (picked bit b)
picked-gf_add bit a b = kept-gf_add (bit == 1) a b

pub picked-lt : (bit a : ℕ) → a < 256 → picked bit a < 256
picked-lt bit a h = kept-lt (bit == 1) a h

-- a bit that isn't 1 picks 0
pub picked_of_clear : (bit a : ℕ) → bit < 2 → bit ≢ 1 → picked bit a ≡ 0
picked_of_clear zero a p h = refl
picked_of_clear (suc zero) a p h = absurd (h refl)
picked_of_clear (suc (suc bit)) a p h = absurd (omega arith)

-- what keeps 0 keeps what a bit picks
pub picked_through : (h : ℕ → ℕ) → h 0 ≡ 0 → (bit a : ℕ) → h (picked bit a) ≡ picked bit (h a)
picked_through h at_zero bit a = kept_through h at_zero (bit == 1) a

-- the sum of two bits picks the sum of what they pick
pub picked_by_sum : (m n a : ℕ) → m < 2 → n < 2 → picked ((m + n) % 2) a ≡ gf_add (picked m a) (picked n a)
picked_by_sum zero zero a p q = refl
picked_by_sum zero (suc zero) a p q = sym (zero-gf_add a)
picked_by_sum (suc zero) zero a p q = sym (gf_add-zero a)
picked_by_sum (suc zero) (suc zero) a p q = sym (gf_add_self a)
picked_by_sum (suc (suc m)) n a p q = absurd (omega arith)
picked_by_sum m (suc (suc n)) a p q = absurd (omega arith)

-- the bits of a sum pick the sum of what the bits of its parts pick
pub picked_by_bits : (a b i c : ℕ) → picked (bit_at (gf_add a b) i) c ≡ gf_add (picked (bit_at a i) c) (picked (bit_at b i) c)
picked_by_bits a b i c =
    ap (λ bit. picked bit c) (bit_at_xor a b i) ∙ picked_by_sum (bit_at a i) (bit_at b i) c (bit_at-lt a i) (bit_at-lt b i)

-- what the code computes where bit 7 is not set
pub double_of_clear : (a : ℕ) → bit_at a 7 ≢ 1 → double a ≡ a * 2 % 256
unfolding double
double_of_clear a h =
    ap (gf_add (a * 2 % 256)) (picked_of_clear (bit_at a 7) 0x1D (bit_at-lt a 7) h) ∙ gf_add-zero (a * 2 % 256)

-- what the code computes where bit 7 is set
pub double_of_set : (a : ℕ) → bit_at a 7 ≡ 1 → double a ≡ gf_add (a * 2 % 256) 0x1D
unfolding double
double_of_set a h = rw h refl

-- the double is a byte
pub double-lt : (a : ℕ) → double a < 256
unfolding double
double-lt a =
    gf_add-lt (a * 2 % 256) (picked (bit_at a 7) 0x1D) (mod_below (a * 2) 256 (lit< tt)) (picked-lt (bit_at a 7) 0x1D (lit< tt))

pub double-zero : double 0 ≡ 0
unfolding double
double-zero = refl

shifted-gf_add : (a b : ℕ) → gf_add a b * 2 % 256 ≡ gf_add (a * 2 % 256) (b * 2 % 256)
shifted-gf_add a b = ap (λ n. n % 256) (sym block) ∙ xor_mod (a * 2) (b * 2) 8
  where
    block : gf_add (a * 2) (b * 2) ≡ gf_add a b * 2
    block = simp add-zero at (xor_block 1 a b 0 0 (lit< tt) (lit< tt))

-- the double of a sum is the sum of the doubles
pub double-gf_add : (a b : ℕ) → double (gf_add a b) ≡ gf_add (double a) (double b)
unfolding double
double-gf_add a b =
    ap (λ s. gf_add s (picked (bit_at (gf_add a b) 7) 0x1D)) (shifted-gf_add a b) ∙
    (ap (gf_add (gf_add (a * 2 % 256) (b * 2 % 256))) (picked_by_bits a b 7 0x1D) ∙
    gf_add_add_comm (a * 2 % 256) (b * 2 % 256) (picked (bit_at a 7) 0x1D) (picked (bit_at b 7) 0x1D))

pub zero-doubled : (b : ℕ) → doubled 0 b ≡ b
unfolding doubled
zero-doubled b = refl

-- one more doubling
pub doubled-more : (n b : ℕ) → doubled (n + 1) b ≡ double (doubled n b)
unfolding doubled
doubled-more n b = rw add-one refl

pub doubled-lt : (n b : ℕ) → b < 256 → doubled n b < 256
unfolding doubled
doubled-lt zero b h = h
doubled-lt (suc n) b h = double-lt (doubled n b)

pub doubled-zero : (n : ℕ) → doubled n 0 ≡ 0
unfolding doubled
doubled-zero zero = refl
doubled-zero (suc n) = ap double (doubled-zero n) ∙ double-zero

pub doubled-gf_add : (n a b : ℕ) → doubled n (gf_add a b) ≡ gf_add (doubled n a) (doubled n b)
unfolding doubled
doubled-gf_add zero a b = refl
doubled-gf_add (suc n) a b = ap double (doubled-gf_add n a b) ∙ double-gf_add (doubled n a) (doubled n b)

pub doubled-add : (m n b : ℕ) → doubled (m + n) b ≡ doubled m (doubled n b)
unfolding doubled
doubled-add zero n b = ap (λ k. doubled k b) (zero-add n)
doubled-add (suc m) n b = (let e : suc m + n ≡ suc (m + n) = omega arith in ap (λ k. doubled k b) e) ∙ ap double (doubled-add m n b)

-- to double before is to double after
pub doubled-inside : (n b : ℕ) → doubled n (double b) ≡ double (doubled n b)
unfolding doubled
doubled-inside zero b = refl
doubled-inside (suc n) b = ap double (doubled-inside n b)

-- what a bit picks of an element is doubled with it
pub doubled-picked : (n bit b : ℕ) → doubled n (picked bit b) ≡ picked bit (doubled n b)
doubled-picked n bit b = picked_through (doubled n) (doubled-zero n) bit b

-- the powers of x below x^8 are single bits
pub doubled-one : (i : ℕ) → i < 8 → doubled i 1 ≡ 2 ^ i
unfolding double doubled
doubled-one zero h = refl
doubled-one (suc zero) h = refl
doubled-one (suc (suc zero)) h = refl
doubled-one (suc (suc (suc zero))) h = refl
doubled-one (suc (suc (suc (suc zero)))) h = refl
doubled-one (suc (suc (suc (suc (suc zero))))) h = refl
doubled-one (suc (suc (suc (suc (suc (suc zero)))))) h = refl
doubled-one (suc (suc (suc (suc (suc (suc (suc zero))))))) h = refl
doubled-one (suc (suc (suc (suc (suc (suc (suc (suc i)))))))) h = absurd (omega arith)
