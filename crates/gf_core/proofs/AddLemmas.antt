-- The laws of the field's sum, over all numbers.
use Rattle.std.proofs.Common.{ℕ, ◌≡◌, ◌<◌, ◌∙◌, sym, ap}
use Rattle.std.specs.Int.Bits.{xor_assoc, xor_self, xor_zero_l, xor_zero_r}
use Rattle.std.proofs.lemmas.Nat.{xor_comm, xor_of_8}
use Rattle.gf_core.specs.Field.{gf_add}

-- the sum of two bytes is a byte
pub gf_add-lt : (a b : ℕ) → a < 256 → b < 256 → gf_add a b < 256
gf_add-lt a b p q = xor_of_8 a b p q

pub gf_add_comm : (a b : ℕ) → gf_add a b ≡ gf_add b a
gf_add_comm a b = xor_comm a b

pub gf_add_assoc : (a b c : ℕ) → gf_add (gf_add a b) c ≡ gf_add a (gf_add b c)
gf_add_assoc a b c = xor_assoc a b c

pub gf_add-zero : (a : ℕ) → gf_add a 0 ≡ a
gf_add-zero a = xor_zero_r a

pub zero-gf_add : (a : ℕ) → gf_add 0 a ≡ a
zero-gf_add a = xor_zero_l a

-- each element is its own negative
pub gf_add_self : (a : ℕ) → gf_add a a ≡ 0
gf_add_self a = xor_self a

pub gf_add_cancel_left : (a b : ℕ) → gf_add a (gf_add a b) ≡ b
gf_add_cancel_left a b = sym (xor_assoc a a b) ∙ (ap (λ s. gf_add s b) (xor_self a) ∙ xor_zero_l b)

pub gf_add_cancel_right : (a b : ℕ) → gf_add (gf_add a b) b ≡ a
gf_add_cancel_right a b = xor_assoc a b b ∙ (ap (λ s. gf_add a s) (xor_self b) ∙ xor_zero_r a)

pub gf_add_left_comm : (a b c : ℕ) → gf_add a (gf_add b c) ≡ gf_add b (gf_add a c)
gf_add_left_comm a b c = sym (xor_assoc a b c) ∙ (ap (λ s. gf_add s c) (xor_comm a b) ∙ xor_assoc b a c)

-- two sums of two, summed the other way
pub gf_add_add_comm : (a b c d : ℕ) → gf_add (gf_add a b) (gf_add c d) ≡ gf_add (gf_add a c) (gf_add b d)
gf_add_add_comm a b c d =
    gf_add_assoc a b (gf_add c d) ∙ (ap (λ s. gf_add a s) (gf_add_left_comm b c d) ∙ sym (gf_add_assoc a c (gf_add b d)))

-- two elements whose sum is 0 are equal
pub gf_add-eq-zero : (a b : ℕ) → gf_add a b ≡ 0 → a ≡ b
gf_add-eq-zero a b e = sym (gf_add_cancel_right a b) ∙ (ap (λ s. gf_add s b) e ∙ xor_zero_l b)
