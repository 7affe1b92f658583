-- The numbers below n that are not chosen: how many there are, and which one stands at a place.
use Rattle.std.proofs.Common.{Bool, true, false, cond, not, ℕ, zero, suc, ◌≡◌, ◌≢◌, ◌<◌, ◌≤◌, ◌+◌, ◌-◌, List, [], ◌∷◌, ◌++◌, length, get_or, ltb, eqb, refl, sym, ap, ◌∙◌, arith, length-append, ⊎_elim, subst, add-one}
use Rattle.std.specs.List.{range_with_len, filter, list_any, count_by, AllPairs, All}
use Rattle.std.proofs.lemmas.Bool.{cases_Bool, cases_lt, eqb-true, ne_eqb, lt-ltb, le-ltb}
use Rattle.std.proofs.lemmas.Bool.Decides.{nat_tests}
use Rattle.std.proofs.lemmas.List.Sums.{sum_by-cons}
use Rattle.std.proofs.lemmas.List.Elements.{filter-append, All-from_get_or}
use Rattle.std.proofs.lemmas.List.Folds.{list_any_none}
use Rattle.std.proofs.lemmas.List.{get_or_append_left}
use Rattle.bats_sampler.specs.Contributors.{Parts}
use Rattle.bats_model.specs.Batch.{unchosen}

range-more : (a n j : ℕ) → a + n ≡ j → range_with_len a (n + 1) ≡ range_with_len a n ++ j ∷ []
range-more a zero j h = grind arith
range-more a (suc n) j h = grind (arith, range-more (a + 1) n j (omega arith))

-- the element at the end
pub last_at : (xs : List ℕ) (x i d : ℕ) → length xs ≡ i → get_or (xs ++ x ∷ []) i d ≡ x
last_at [] x i d h = rw (← h) refl
last_at (y ∷ xs) x zero d h = absurd (omega arith)
last_at (y ∷ xs) x (suc i) d h = last_at xs x i d (omega arith)

-- one number more
unchosen-more : (n : ℕ) (chosen : List ℕ)
    → unchosen (n + 1) chosen ≡ unchosen n chosen ++ cond (not (list_any (λ x. eqb x n) chosen)) (n ∷ []) []
unfolding unchosen
unchosen-more n chosen =
    let p : ℕ → Bool = λ s. not (list_any (λ x. eqb x s) chosen) in
    ap (filter p) (range-more 0 n n (omega arith)) ∙ filter-append p (range_with_len 0 n) (n ∷ [])

split_at : (x n : ℕ) → cond (ltb x (n + 1)) 1 0 ≡ cond (ltb x n) 1 0 + cond (eqb x n) 1 0
split_at x n = grind (arith, nat_tests)

below-more : (n : ℕ) (xs : List ℕ)
    → count_by (λ c. ltb c (n + 1)) xs ≡ count_by (λ c. ltb c n) xs + count_by (λ c. eqb c n) xs
below-more n [] = refl
below-more n (x ∷ xs) =
    let a = sum_by-cons (λ c. cond (ltb c (n + 1)) 1 0) x xs in
    let b = sum_by-cons (λ c. cond (ltb c n) 1 0) x xs in
    let d = sum_by-cons (λ c. cond (eqb c n) 1 0) x xs in
    omega (arith, a, b, d, split_at x n, below-more n xs)

below-zero : (xs : List ℕ) → count_by (λ c. ltb c 0) xs ≡ 0
below-zero [] = refl
below-zero (x ∷ xs) =
    let a = sum_by-cons (λ c. cond (ltb c 0) 1 0) x xs in
    let b : cond {A = ℕ} (ltb x 0) 1 0 ≡ 0 = grind (arith, nat_tests) in
    omega (arith, a, b, below-zero xs)

-- a list of which no element is n
none : (n : ℕ) (xs : List ℕ) → All (λ c. c ≢ n) xs → count_by (λ c. eqb c n) xs ≡ 0
none n [] h = refl
none n (x ∷ xs) h =
    let a = sum_by-cons (λ c. cond (eqb c n) 1 0) x xs in
    let b : eqb x n ≡ false = ne_eqb x n (h 0 0 (omega arith)) in
    let d : cond {A = ℕ} (eqb x n) 1 0 ≡ 0 = rw b refl in
    omega (arith, a, d, none n xs (λ k e lt. h (suc k) e (omega arith)))

once_yes : (n x : ℕ) (xs : List ℕ) → eqb x n ≡ true → count_by (λ c. eqb c n) xs ≡ 0
    → count_by (λ c. eqb c n) (x ∷ xs) ≡ cond (list_any (λ c. eqb c n) (x ∷ xs)) 1 0
once_yes n x xs e z = sum_by-cons (λ c. cond (eqb c n) 1 0) x xs ∙ rw e (omega (arith, z))

once_no : (n x : ℕ) (xs : List ℕ) → eqb x n ≡ false
    → count_by (λ c. eqb c n) xs ≡ cond (list_any (λ c. eqb c n) xs) 1 0
    → count_by (λ c. eqb c n) (x ∷ xs) ≡ cond (list_any (λ c. eqb c n) (x ∷ xs)) 1 0
once_no n x xs e z = sum_by-cons (λ c. cond (eqb c n) 1 0) x xs ∙ rw e (omega (arith, z))

-- among distinct numbers n is counted once where it is there
once : (n : ℕ) (xs : List ℕ) → AllPairs (λ a b. a ≢ b) xs
    → count_by (λ c. eqb c n) xs ≡ cond (list_any (λ c. eqb c n) xs) 1 0
once n [] h = refl
once n (x ∷ xs) h =
    let rest = once n xs (λ i j d lt l. h (suc i) (suc j) d (omega arith) (omega arith)) in
    let others : x ≡ n → All (λ c. c ≢ n) xs =
    λ e k d lt same. h 0 (suc k) d (omega arith) (omega arith) (e ∙ sym same) in
    ⊎_elim (λ (yes' : eqb x n ≡ true). once_yes n x xs yes' (none n xs (others (eqb-true x n yes'))))
    (λ (no' : eqb x n ≡ false). once_no n x xs no' rest) (cases_Bool (eqb x n))

length_of_piece : (b : Bool) (n : ℕ) → length (cond (not b) (n ∷ []) []) + cond b 1 0 ≡ 1
length_of_piece true n = refl
length_of_piece false n = refl

length-unchosen_more : (chosen : List ℕ) → AllPairs (λ a b. a ≢ b) chosen → (n : ℕ)
    → length (unchosen n chosen) + count_by (λ c. ltb c n) chosen ≡ n
    → length (unchosen (n + 1) chosen) + count_by (λ c. ltb c (n + 1)) chosen ≡ n + 1
length-unchosen_more chosen h n before =
    let any : Bool = list_any (λ x. eqb x n) chosen in
    let long : length (unchosen (n + 1) chosen) ≡ length (unchosen n chosen) + length (cond (not any) (n ∷ []) []) =
    ap length (unchosen-more n chosen) ∙ length-append (unchosen n chosen) (cond (not any) (n ∷ []) []) in
    omega (arith, long, length_of_piece any n, below-more n chosen, once n chosen h, before)

-- the numbers below n are those that are not chosen and those that are
pub length-unchosen : (chosen : List ℕ) → AllPairs (λ a b. a ≢ b) chosen → (n : ℕ)
    → length (unchosen n chosen) + count_by (λ c. ltb c n) chosen ≡ n
unfolding unchosen
length-unchosen chosen h zero = omega (arith, below-zero chosen)
length-unchosen chosen h (suc n) =
    subst (λ (m : ℕ). length (unchosen m chosen) + count_by (λ c. ltb c m) chosen ≡ m) (add-one n)
    (length-unchosen_more chosen h n (length-unchosen chosen h n))

range-split : (a n m b : ℕ) → a + n ≡ b → range_with_len a (n + m) ≡ range_with_len a n ++ range_with_len b m
range-split a zero m b h = grind arith
range-split a (suc n) m b h =
    let e : suc n + m ≡ suc (n + m) = omega arith in
    rw e (ap (λ xs. a ∷ xs) (range-split (a + 1) n m b (omega arith)))

-- more numbers leave what stands at the places before
unchosen-longer : (n m place : ℕ) (chosen : List ℕ) → place < length (unchosen n chosen)
    → get_or (unchosen (n + m) chosen) place 0 ≡ get_or (unchosen n chosen) place 0
unfolding unchosen
unchosen-longer n m place chosen lt =
    let p : ℕ → Bool = λ s. not (list_any (λ x. eqb x s) chosen) in
    let parts : filter p (range_with_len 0 (n + m)) ≡ filter p (range_with_len 0 n) ++ filter p (range_with_len n m) =
    ap (filter p) (range-split 0 n m n (omega arith)) ∙ filter-append p (range_with_len 0 n) (range_with_len n m) in
    ap (λ xs. get_or xs place 0) parts
    ∙ get_or_append_left (filter p (range_with_len 0 n)) (filter p (range_with_len n m)) 0 place lt

-- the first i of these numbers are below x, and the others above
count_of_parts : (x : ℕ) (xs : List ℕ) (i : ℕ) → i ≤ length xs → ((k : ℕ) → k < i → get_or xs k 0 < x)
    → ((k : ℕ) → i ≤ k → k < length xs → x < get_or xs k 0) → count_by (λ c. ltb c x) xs ≡ i
count_of_parts x [] i within low high = omega arith
count_of_parts x (c ∷ xs) zero within low high =
    let above = high 0 (omega arith) (omega arith) in
    let test : ltb c x ≡ false = le-ltb c x (omega arith) in
    let one : cond {A = ℕ} (ltb c x) 1 0 ≡ 0 = rw test refl in
    let rest = count_of_parts x xs 0 (omega arith) (λ k lt. absurd (omega arith))
    (λ k le lt. high (suc k) (omega arith) (omega arith)) in
    omega (arith, sum_by-cons (λ c. cond (ltb c x) 1 0) c xs, one, rest)
count_of_parts x (c ∷ xs) (suc i) within low high =
    let under = low 0 (omega arith) in
    let test : ltb c x ≡ true = lt-ltb c x under in
    let one : cond {A = ℕ} (ltb c x) 1 0 ≡ 1 = rw test refl in
    let rest = count_of_parts x xs i (omega arith) (λ k lt. low (suc k) (omega arith))
    (λ k le lt. high (suc k) (omega arith) (omega arith)) in
    omega (arith, sum_by-cons (λ c. cond (ltb c x) 1 0) c xs, one, rest)

apart : (x : ℕ) (xs : List ℕ) (i : ℕ) → Parts xs i x → list_any (λ c. eqb c x) xs ≡ false
apart x xs i parts =
    list_any_none (λ c. eqb c x) xs
    (All-from_get_or (λ c. eqb c x ≡ false) xs 0
    (λ k lt. ⊎_elim (λ (a : k < i). let l = parts.below k a in ne_eqb (get_or xs k 0) x (λ e. absurd (omega arith)))
    (λ (a : i ≤ k). let l = parts.above k a lt in ne_eqb (get_or xs k 0) x (λ e. absurd (omega arith)))
    (cases_lt k i)))

-- the number at a place among the unchosen: the place, and one more for each chosen number that it passes
pub unchosen-at : (n place index : ℕ) (chosen : List ℕ) → AllPairs (λ a b. a ≢ b) chosen
    → Parts chosen index (place + index) → place + index < n
    → get_or (unchosen n chosen) place 0 ≡ place + index
unchosen-at n place index chosen distinct parts lt =
    let x : ℕ = place + index in
    let count = count_of_parts x chosen index parts.within parts.below parts.above in
    let long : length (unchosen x chosen) ≡ place = omega (arith, length-unchosen chosen distinct x, count) in
    let here : unchosen (x + 1) chosen ≡ unchosen x chosen ++ x ∷ [] =
    unchosen-more x chosen ∙ rw (apart x chosen index parts) refl in
    let longer : length (unchosen (x + 1) chosen) ≡ place + 1 =
    ap length here ∙ length-append (unchosen x chosen) (x ∷ []) ∙ rw long refl in
    let all : x + 1 + (n - (x + 1)) ≡ n = omega arith in
    let at : get_or (unchosen (x + 1 + (n - (x + 1))) chosen) place 0 ≡ get_or (unchosen (x + 1) chosen) place 0 =
    unchosen-longer (x + 1) (n - (x + 1)) place chosen (omega arith) in
    subst (λ (m : ℕ). get_or (unchosen m chosen) place 0 ≡ get_or (unchosen (x + 1) chosen) place 0) all at
    ∙ ap (λ xs. get_or xs place 0) here
    ∙ last_at (unchosen x chosen) x place 0 long
