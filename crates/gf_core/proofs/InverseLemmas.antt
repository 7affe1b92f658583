-- Powers of x, inverses, and what follows from them, over bytes.
use Rattle.std.proofs.Common.{ℕ, ◌≡◌, ◌≢◌, ◌<◌, ◌+◌, ◌-◌, ◌∙◌, ◌⊎◌, inl, inr, get_or, sym, ap, arith, lit<}
use Rattle.std.proofs.lemmas.Bool.{cases_eq}
use Rattle.gf_core.specs.declared.tables.TheConstants.{LOGARITHMS}
use Rattle.gf_core.specs.Field.{gf_mul, doubled}
use Rattle.gf_core.proofs.DoubleLemmas.{doubled-add, doubled-lt}
use Rattle.gf_core.proofs.ProductLemmas.{one-gf_mul, gf_mul-one, gf_mul-zero, gf_mul_comm, gf_mul_assoc, gf_mul-doubled_left}
use Rattle.gf_core.proofs.PowerLemmas.{get_or-POWERS, get_or-LOGARITHMS}

-- the product of two powers of x
pub gf_mul_powers : (m n : ℕ) → gf_mul (doubled m 1) (doubled n 1) ≡ doubled (m + n) 1
gf_mul_powers m n =
    gf_mul-doubled_left m 1 (doubled n 1) (lit< tt) (doubled-lt n 1 (lit< tt)) ∙
    (ap (doubled m) (one-gf_mul (doubled n 1)) ∙ sym (doubled-add m n 1))

-- x to the power of 255 is 1
pub doubled_255 : doubled 255 1 ≡ 1
doubled_255 = sym (get_or-POWERS 255 (lit< tt))

-- a power of x times the power that makes 255 of it
pub gf_mul_powers_255 : (a m n : ℕ) → doubled m 1 ≡ a → m + n ≡ 255 → gf_mul a (doubled n 1) ≡ 1
gf_mul_powers_255 a m n e s =
    ap (λ x. gf_mul x (doubled n 1)) (sym e) ∙ (gf_mul_powers m n ∙ (ap (λ k. doubled k 1) s ∙ doubled_255))

-- each byte but 0 has an inverse
pub inverse_exists : (a : ℕ) → a < 256 → a ≢ 0 → (b : ℕ) × (b < 256) × (gf_mul a b ≡ 1)
inverse_exists a p h =
    let l = get_or-LOGARITHMS a p h in
    let n : ℕ = 255 - get_or LOGARITHMS a 0 in
    (doubled n 1, doubled-lt n 1 (lit< tt), gf_mul_powers_255 a (get_or LOGARITHMS a 0) n l.1 (omega (arith, l.0)))

-- and no other
pub inverse_unique : (a b c : ℕ) → a < 256 → b < 256 → c < 256 → gf_mul a b ≡ 1 → gf_mul a c ≡ 1 → b ≡ c
inverse_unique a b c p q r eb ec =
    sym (gf_mul-one b q) ∙
    (ap (gf_mul b) (sym ec) ∙
    (sym (gf_mul_assoc b a c p r) ∙
    (ap (λ x. gf_mul x c) (gf_mul_comm b a q p ∙ eb) ∙ one-gf_mul c)))

-- multiplied by an element and then by its inverse
pub gf_mul_inverse_left : (a b c : ℕ) → a < 256 → b < 256 → c < 256 → gf_mul a b ≡ 1 → gf_mul b (gf_mul a c) ≡ c
gf_mul_inverse_left a b c p q r e =
    sym (gf_mul_assoc b a c p r) ∙ (ap (λ x. gf_mul x c) (gf_mul_comm b a q p ∙ e) ∙ one-gf_mul c)

-- multiplied by the inverse of an element and then by the element
pub gf_mul_inverse_right : (a b c : ℕ) → a < 256 → b < 256 → c < 256 → gf_mul b c ≡ 1 → gf_mul (gf_mul a c) b ≡ a
gf_mul_inverse_right a b c p q r e =
    gf_mul_assoc a c b r q ∙ (ap (gf_mul a) (gf_mul_comm c b r q ∙ e) ∙ gf_mul-one a p)

-- a factor that isn't 0 cancels
pub gf_mul_left_cancel : (a b c : ℕ) → a < 256 → b < 256 → c < 256 → a ≢ 0 → gf_mul a b ≡ gf_mul a c → b ≡ c
gf_mul_left_cancel a b c p q r h e =
    let inverse = inverse_exists a p h in
    sym (gf_mul_inverse_left a inverse.0 b p inverse.1 q inverse.2) ∙
    (ap (gf_mul inverse.0) e ∙ gf_mul_inverse_left a inverse.0 c p inverse.1 r inverse.2)

-- a product is 0 only where a factor is
pub gf_mul-eq-zero : (a b : ℕ) → a < 256 → b < 256 → gf_mul a b ≡ 0 → (a ≡ 0) ⊎ (b ≡ 0)
gf_mul-eq-zero a b p q e = by_cases (cases_eq a 0)
  where
    by_cases : ((a ≡ 0) ⊎ (a ≡ 0 → ⊥)) → (a ≡ 0) ⊎ (b ≡ 0)
    by_cases (inl z) = inl z
    by_cases (inr h) = inr (gf_mul_left_cancel a b 0 p q (lit< tt) h (e ∙ sym (gf_mul-zero a)))
