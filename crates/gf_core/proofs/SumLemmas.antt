-- Sums of n terms.
use Rattle.std.proofs.Common.{ℕ, zero, suc, ◌≡◌, ◌≢◌, ◌<◌, ◌+◌, ◌∙◌, sym, ap, refl, arith, add-zero, add-suc, add-one, lit<, inl, inr, ◌⊎◌}
use Rattle.std.proofs.lemmas.Bool.{cases_eq}
use Rattle.gf_core.specs.Field.{gf_add, gf_sum}
use Rattle.gf_core.proofs.AddLemmas.{gf_add-lt, gf_add-zero, zero-gf_add, gf_add_assoc, gf_add_comm, gf_add_add_comm}

pub gf_sum-zero : (f : ℕ → ℕ) → gf_sum 0 f ≡ 0
unfolding gf_sum
gf_sum-zero f = refl

pub gf_sum-suc : (n : ℕ) (f : ℕ → ℕ) → gf_sum (suc n) f ≡ gf_add (gf_sum n f) (f n)
unfolding gf_sum
gf_sum-suc n f = refl

-- one more term
pub gf_sum-more : (n : ℕ) (f : ℕ → ℕ) → gf_sum (n + 1) f ≡ gf_add (gf_sum n f) (f n)
unfolding gf_sum
gf_sum-more n f = rw add-one refl

-- a sum of bytes is a byte
pub gf_sum-lt : (n : ℕ) (f : ℕ → ℕ) → ((i : ℕ) → i < n → f i < 256) → gf_sum n f < 256
unfolding gf_sum
gf_sum-lt zero f h = lit< tt
gf_sum-lt (suc n) f h = gf_add-lt (gf_sum n f) (f n) (gf_sum-lt n f (λ i p. h i (omega arith))) (h n (omega arith))

-- the terms below n alone decide the sum
pub gf_sum-congruence : (n : ℕ) (f g : ℕ → ℕ) → ((i : ℕ) → i < n → f i ≡ g i) → gf_sum n f ≡ gf_sum n g
unfolding gf_sum
gf_sum-congruence zero f g h = refl
gf_sum-congruence (suc n) f g h =
    ap (λ s. gf_add s (f n)) (gf_sum-congruence n f g (λ i p. h i (omega arith))) ∙ ap (gf_add (gf_sum n g)) (h n (omega arith))

-- the sum of terms that are all 0
pub gf_sum-zeros : (n : ℕ) (f : ℕ → ℕ) → ((i : ℕ) → i < n → f i ≡ 0) → gf_sum n f ≡ 0
unfolding gf_sum
gf_sum-zeros zero f h = refl
gf_sum-zeros (suc n) f h =
    ap (λ s. gf_add s (f n)) (gf_sum-zeros n f (λ i p. h i (omega arith))) ∙ (zero-gf_add (f n) ∙ h n (omega arith))

one_of_two : (n : ℕ) (f : ℕ → ℕ) (k : ℕ) → k < suc n → ((i : ℕ) → i < suc n → i ≢ k → f i ≡ 0)
    → (k < n → gf_sum n f ≡ f k) → ((k ≡ n) ⊎ (k ≡ n → ⊥)) → gf_add (gf_sum n f) (f n) ≡ f k
one_of_two n f k p h before (inl e) =
    ap (λ s. gf_add s (f n)) (gf_sum-zeros n f (λ i q. h i (omega arith) (omega arith))) ∙
    (zero-gf_add (f n) ∙ ap f (sym e))
one_of_two n f k p h before (inr e) =
    ap (gf_add (gf_sum n f)) (h n (omega arith) (λ q. e (sym q))) ∙
    (gf_add-zero (gf_sum n f) ∙ before (omega arith))

-- the sum of terms that are all 0 but the one at k
pub gf_sum-one : (n : ℕ) (f : ℕ → ℕ) (k : ℕ) → k < n → ((i : ℕ) → i < n → i ≢ k → f i ≡ 0) → gf_sum n f ≡ f k
unfolding gf_sum
gf_sum-one zero f k p h = absurd (omega arith)
gf_sum-one (suc n) f k p h =
    one_of_two n f k p h (λ q. gf_sum-one n f k q (λ i r. h i (omega arith))) (cases_eq k n)

-- the sum of sums
pub gf_sum-gf_add : (n : ℕ) (f g : ℕ → ℕ) → gf_sum n (λ i. gf_add (f i) (g i)) ≡ gf_add (gf_sum n f) (gf_sum n g)
unfolding gf_sum
gf_sum-gf_add zero f g = refl
gf_sum-gf_add (suc n) f g =
    ap (λ s. gf_add s (gf_add (f n) (g n))) (gf_sum-gf_add n f g) ∙ gf_add_add_comm (gf_sum n f) (gf_sum n g) (f n) (g n)

-- what keeps 0 and sums of two keeps sums
pub gf_sum_of_linear : (h : ℕ → ℕ) → h 0 ≡ 0 → ((a b : ℕ) → h (gf_add a b) ≡ gf_add (h a) (h b))
    → (n : ℕ) (f : ℕ → ℕ) → h (gf_sum n f) ≡ gf_sum n (λ i. h (f i))
unfolding gf_sum
gf_sum_of_linear h at_zero at_sum zero f = at_zero
gf_sum_of_linear h at_zero at_sum (suc n) f =
    at_sum (gf_sum n f) (f n) ∙ ap (λ s. gf_add s (h (f n))) (gf_sum_of_linear h at_zero at_sum n f)

-- the sum over i of the sum over j is the sum over j of the sum over i
pub gf_sum-exchange : (m n : ℕ) (f : ℕ → ℕ → ℕ) → gf_sum m (λ i. gf_sum n (f i)) ≡ gf_sum n (λ j. gf_sum m (λ i. f i j))
unfolding gf_sum
gf_sum-exchange zero n f = sym (gf_sum-zeros n (λ j. 0) (λ i p. refl))
gf_sum-exchange (suc m) n f =
    ap (λ s. gf_add s (gf_sum n (f m))) (gf_sum-exchange m n f) ∙ sym (gf_sum-gf_add n (λ j. gf_sum m (λ i. f i j)) (f m))

-- a sum split at m
pub gf_sum-add : (m n : ℕ) (f : ℕ → ℕ) → gf_sum (m + n) f ≡ gf_add (gf_sum m f) (gf_sum n (λ i. f (m + i)))
unfolding gf_sum
gf_sum-add m zero f = ap (λ k. gf_sum k f) (add-zero m) ∙ sym (gf_add-zero (gf_sum m f))
gf_sum-add m (suc n) f =
    ap (λ k. gf_sum k f) (add-suc m n) ∙
    (ap (λ s. gf_add s (f (m + n))) (gf_sum-add m n f) ∙ gf_add_assoc (gf_sum m f) (gf_sum n (λ i. f (m + i))) (f (m + n)))

-- the terms from m on are all 0
pub gf_sum-add_zeros : (m n : ℕ) (f : ℕ → ℕ) → ((i : ℕ) → i < n → f (m + i) ≡ 0) → gf_sum (m + n) f ≡ gf_sum m f
gf_sum-add_zeros m n f h =
    gf_sum-add m n f ∙ (ap (gf_add (gf_sum m f)) (gf_sum-zeros n (λ i. f (m + i)) h) ∙ gf_add-zero (gf_sum m f))

-- the first term apart
pub gf_sum-first : (n : ℕ) (f : ℕ → ℕ) → gf_sum (suc n) f ≡ gf_add (f 0) (gf_sum n (λ i. f (suc i)))
unfolding gf_sum
gf_sum-first zero f = gf_add_comm 0 (f 0)
gf_sum-first (suc n) f =
    ap (λ s. gf_add s (f (suc n))) (gf_sum-first n f) ∙ gf_add_assoc (f 0) (gf_sum n (λ i. f (suc i))) (f (suc n))
