-- Ranges of numbers, and what is made of each number of one.
use Rattle.std.proofs.Common.{ℕ, zero, suc, ◌≡◌, ◌+◌, ◌-◌, ◌<◌, ◌≤◌, List, ◌∷◌, ◌++◌, flat_map, sym, ap, ◌∙◌, arith}
use Rattle.std.specs.List.{range_with_len}
use Rattle.std.proofs.lemmas.List.{append-nil}
use Rattle.std.proofs.lemmas.List.Concat.{flat_map-append}

pub range-append : (a m n : ℕ) → range_with_len a (m + n) ≡ range_with_len a m ++ range_with_len (a + m) n
range-append a zero n =
    let from : a + 0 ≡ a = omega arith in
    let count : 0 + n ≡ n = omega arith in
    ap (range_with_len a) count ∙ ap (λ (x : ℕ). range_with_len x n) (sym from)
range-append a (suc m) n =
    let count : suc m + n ≡ suc (m + n) = omega arith in
    let from : a + 1 + m ≡ a + suc m = omega arith in
    ap (range_with_len a) count ∙ ap (λ (xs : List ℕ). a ∷ xs) (range-append (a + 1) m n ∙ ap (λ (x : ℕ). range_with_len (a + 1) m ++ range_with_len x n) from)

-- what is made of one number more
pub flat_map-range_more : (f : ℕ → List ℕ) (a n : ℕ) → flat_map f (range_with_len a (n + 1)) ≡ flat_map f (range_with_len a n) ++ f (a + n)
flat_map-range_more f a n =
    ap (flat_map f) (range-append a n 1) ∙ flat_map-append f (range_with_len a n) (range_with_len (a + n) 1)
    ∙ ap (λ (xs : List ℕ). flat_map f (range_with_len a n) ++ xs) (append-nil (f (a + n)))

-- what is made of the numbers from the i-th on
pub flat_map-range_split : (f : ℕ → List ℕ) (a n i : ℕ) → i ≤ n
    → flat_map f (range_with_len a n) ≡ flat_map f (range_with_len a i) ++ flat_map f (range_with_len (a + i) (n - i))
flat_map-range_split f a n i h =
    let count : n ≡ i + (n - i) = omega arith in
    ap (λ (k : ℕ). flat_map f (range_with_len a k)) count ∙ ap (flat_map f) (range-append a i (n - i))
    ∙ flat_map-append f (range_with_len a i) (range_with_len (a + i) (n - i))

-- one piece, and what comes after it
pub flat_map-range_at : (f : ℕ → List ℕ) (a n i : ℕ) → i < n
    → flat_map f (range_with_len a n)
    ≡ (flat_map f (range_with_len a i) ++ f (a + i)) ++ flat_map f (range_with_len (a + (i + 1)) (n - (i + 1)))
flat_map-range_at f a n i h =
    flat_map-range_split f a n (i + 1) (omega arith)
    ∙ ap (λ (xs : List ℕ). xs ++ flat_map f (range_with_len (a + (i + 1)) (n - (i + 1)))) (flat_map-range_more f a i)
