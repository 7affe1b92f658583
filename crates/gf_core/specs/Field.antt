-- The field GF(256) with the polynomial x^8 + x^4 + x^3 + x^2 + 1. An element is a byte, whose bit i is the
-- coefficient of x^i.
use Rattle.std.specs.Prelude.{ℕ, zero, suc, ◌*◌, ◌%◌, ◌==◌, if◌then◌else◌, bit_xor}
use Rattle.std.specs.Int.{bit_at}

-- the sum of two elements: their exclusive or
abbrev pub gf_add : ℕ → ℕ → ℕ
gf_add a b = bit_xor a b

-- an element times x: shifted by one bit, kept to eight bits, with 0x1D added where bit 7 was set
unfoldable pub double : ℕ → ℕ
double a = gf_add (a * 2 % 256) (if bit_at a 7 == 1 then 0x1D else 0)

-- an element doubled n times
unfoldable pub doubled : ℕ → ℕ → ℕ
doubled zero b = b
doubled (suc n) b = double (doubled n b)

-- the sum of the first n terms
unfoldable pub gf_sum : ℕ → (ℕ → ℕ) → ℕ
gf_sum zero term = 0
gf_sum (suc n) term = gf_add (gf_sum n term) (term n)

-- what bit i of a adds to the product of a and b
unfoldable pub product_term : ℕ → ℕ → ℕ → ℕ
product_term a b i = if bit_at a i == 1 then doubled i b else 0

-- the product: the sum, over the bits that are set in a, of b doubled as many times as the bit's place says
unfoldable pub gf_mul : ℕ → ℕ → ℕ
gf_mul a b = gf_sum 8 (product_term a b)
