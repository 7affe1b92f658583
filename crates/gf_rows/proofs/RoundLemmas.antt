-- A vector times a factor by rounds: the sum of its doubles, each where that bit of the factor is set.
use Rattle.std.proofs.Common.{ℕ, zero, suc, ◌≡◌, ◌+◌, ◌==◌, if◌then◌else◌, Bool, true, false, cond, List, [], ◌∷◌, length, map, replicate, bit_xor, sym, ap, refl, arith}
use Rattle.std.specs.Int.{bit_at}
use lib.Lanes.{zip2, sel_l, top}
use Rattle.gf_core.specs.Field.{gf_sum, product_term, double, doubled}
use Rattle.gf_core.proofs.DoubleLemmas.{zero-doubled, doubled-more}
use Rattle.gf_core.proofs.SumLemmas.{gf_sum-more}

-- all lanes are kept, or all become 0
pub picked_lanes : (n : ℕ) (kept : Bool) (v : List ℕ) → length v ≡ n → sel_l (replicate n (top 7 (cond kept 255 0))) v (replicate n 0) ≡ map (λ x. if kept then x else 0) v
picked_lanes zero kept [] e = refl
picked_lanes zero kept (x ∷ xs) e = absurd (omega arith)
picked_lanes (suc n) kept [] e = absurd (omega arith)
picked_lanes (suc n) true (x ∷ xs) e = ap (λ ys. x ∷ ys) (picked_lanes n true xs (omega arith))
picked_lanes (suc n) false (x ∷ xs) e = ap (λ ys. 0 ∷ ys) (picked_lanes n false xs (omega arith))

-- what each lane of the sum holds after some rounds
abbrev pub sum_after : ℕ → ℕ → ℕ → ℕ
sum_after c rounds x = gf_sum rounds (product_term c x)

pub sums_at_first : (c n : ℕ) (v : List ℕ) → length v ≡ n → replicate n 0 ≡ map (sum_after c 0) v
unfolding gf_sum
sums_at_first c zero [] e = refl
sums_at_first c zero (x ∷ xs) e = absurd (omega arith)
sums_at_first c (suc n) [] e = absurd (omega arith)
sums_at_first c (suc n) (x ∷ xs) e = ap (λ ys. 0 ∷ ys) (sums_at_first c n xs (omega arith))

pub powers_at_first : (v : List ℕ) → v ≡ map (doubled 0) v
powers_at_first [] = refl
powers_at_first (x ∷ xs) = λ i. sym (zero-doubled x) i ∷ powers_at_first xs i

-- one more round
pub sums_more : (c i : ℕ) (v : List ℕ) → zip2 bit_xor (map (sum_after c i) v) (map (λ x. if bit_at c i == 1 then x else 0) (map (doubled i) v)) ≡ map (sum_after c (i + 1)) v
unfolding product_term
sums_more c i [] = refl
sums_more c i (x ∷ xs) = λ j. sym (gf_sum-more i (product_term c x)) j ∷ sums_more c i xs j

pub powers_more : (i : ℕ) (v : List ℕ) → map double (map (doubled i) v) ≡ map (doubled (i + 1)) v
powers_more i [] = refl
powers_more i (x ∷ xs) = λ j. sym (doubled-more i x) j ∷ powers_more i xs j
