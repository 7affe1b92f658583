-- How many symbols of a size hold so many bytes.
use Rattle.std.proofs.Common.{ℕ, ◌≡◌, ◌+◌, ◌*◌, ◌/◌, ◌%◌, ◌<◌, ◌≤◌, min, inl, inr, arith}
use Rattle.std.specs.Int.{div_ceil}
use Rattle.std.proofs.lemmas.Bool.{cases_lt}
use Rattle.std.proofs.lemmas.Nat.{div-add-mod', mul-le}
use Rattle.std.proofs.Math.Nat.{mod-lt}

product_le : (a b t : ℕ) → a ≤ b → a * t ≤ b * t
product_le a b t h = mul-le a t b t h (omega arith)

within_of : (q r t n x : ℕ) → q * t + r ≡ x → r < t → q + min 1 r ≤ n → x ≤ n * t
within_of q r t n x e lt h =
    elim (cases_lt 0 r) [
      | inl some ↦ let k : (q + 1) * t ≤ n * t = product_le (q + 1) n t (omega arith) in omega arith
      | inr none ↦ let k : q * t ≤ n * t = product_le q n t (omega arith) in omega arith
    ]

beyond_of : (q r t n x : ℕ) → q * t + r ≡ x → 0 < t → n < q + min 1 r → n * t < x
beyond_of q r t n x e pos h =
    elim (cases_lt 0 r) [
      | inl some ↦ let k : n * t ≤ q * t = product_le n q t (omega arith) in omega arith
      | inr none ↦ let k : (n + 1) * t ≤ q * t = product_le (n + 1) q t (omega arith) in omega arith
    ]

-- so many symbols hold no more bytes
pub length-within : (x t n : ℕ) → 0 < t → div_ceil x t ≤ n → x ≤ n * t
length-within x t n pos h = within_of (x / t) (x % t) t n x (div-add-mod' x t) (mod-lt x pos) h

-- more symbols hold more bytes
pub length-beyond : (x t n : ℕ) → 0 < t → n < div_ceil x t → n * t < x
length-beyond x t n pos h = beyond_of (x / t) (x % t) t n x (div-add-mod' x t) pos h

-- more bytes want more symbols
pub symbols-beyond : (x t n : ℕ) → 0 < t → n * t < x → n < div_ceil x t
symbols-beyond x t n pos h =
    elim (cases_lt n (div_ceil x t)) [
      | inl more ↦ more
      | inr few ↦ let k : x ≤ n * t = length-within x t n pos few in omega arith
    ]
