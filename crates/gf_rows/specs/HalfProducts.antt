-- The products of a factor with the two halves of a byte.
use Rattle.std.specs.Prelude.{ℕ, ◌≡◌, ◌<◌, ◌+◌, ◌*◌, ◌/◌, List, [], ◌∷◌, slice_index}
use Rattle.gf_core.specs.Field.{gf_add, gf_mul}

-- the sums of some of four elements, where bit i of the place says whether element i is in the sum
abbrev pub four_sums : ℕ → ℕ → ℕ → ℕ → List ℕ
four_sums a b c d =
    let ab = gf_add a b in
    let ac = gf_add a c in
    let bc = gf_add b c in
    let abc = gf_add ab c in
    0 ∷ a ∷ b ∷ ab ∷ c ∷ ac ∷ bc ∷ abc ∷ d ∷ gf_add a d ∷ gf_add b d ∷ gf_add ab d ∷ gf_add c d ∷ gf_add ac d ∷ gf_add bc d ∷ gf_add abc d ∷ []

-- each block of 16 entries of one table has the products with the numbers below 16, and of the other those with 16
-- times these
pub record AreProducts (factor : ℕ) (low high : List ℕ) : Type 0 where
  pub of_low : (lane half : ℕ) → lane < 32 → half < 16 → slice_index low (16 * (lane / 16) + half) ≡ gf_mul factor half
  pub of_high : (lane half : ℕ) → lane < 32 → half < 16 → slice_index high (16 * (lane / 16) + half) ≡ gf_mul factor (half * 16)
