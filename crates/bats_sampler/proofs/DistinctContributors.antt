-- The contributors that a key draws: how many there are, and that they are distinct.
use Rattle.std.proofs.Common.{Bool, true, false, cond, not, map, min, ◌*◌, ℕ, zero, suc, ◌≡◌, ◌≢◌, ◌<◌, ◌≤◌, ◌+◌, ◌-◌, List, [], ◌∷◌, ◌++◌, length, get_or, ltb, eqb, refl, sym, ◌∙◌, subst, arith, add-one, length-append, ⊎_elim}
use Rattle.std.specs.List.{range_with_len, list_any, AllPairs, All}
use Rattle.std.proofs.lemmas.Bool.{cases_lt, eq-eqb, not-true, both_ways}
use Rattle.std.proofs.lemmas.List.{get_or_append_left}
use Rattle.std.proofs.lemmas.List.Elements.{All-filter, All-push, filter_passes}
use Rattle.std.proofs.lemmas.List.FromFn.{get_or-range_with_len, length-range_with_len, get_or-map-range_with_len, length-map-range_with_len}
use Rattle.std.proofs.lemmas.List.Folds.{list_any_at}
use Rattle.std.proofs.lemmas.List.Sums.{count_by-le-length}
use Rattle.bats_model.specs.Key.{key_word, pick, batch_key}
use Rattle.bats_model.specs.Session.{SessionData, symbols_of}
use Rattle.bats_model.specs.DegreeTable.{degree_table, degree_at}
use Rattle.bats_model.specs.Batch.{BatchData, unchosen, drawn, is_systematic_batch, systematic_batch_of, sampled_batch_of, batch_of}
use Rattle.bats_model.proofs.EachBatch.{contributors-batch_of}
use Rattle.bats_sampler.specs.Contributors.{AreContributors}
use Rattle.bats_sampler.proofs.Unchosen.{length-unchosen, last_at}
use Rattle.bats_sampler.proofs.KeyLemmas.{key_word-small, pick-below}

pub drawn-more : (key : List ℕ) (symbols i place : ℕ) (numbers after : List ℕ) → numbers ≡ drawn key symbols i
    → place ≡ pick (key_word key (1 + i)) (symbols - i)
    → after ≡ numbers ++ get_or (unchosen symbols numbers) place 0 ∷ [] → after ≡ drawn key symbols (i + 1)
unfolding drawn
drawn-more key symbols i place numbers after so_far picked new =
    subst (λ (n : ℕ). after ≡ drawn key symbols n) (sym (add-one i)) (rw (new, picked, so_far) refl)

pub length-drawn : (key : List ℕ) (symbols i : ℕ) → length (drawn key symbols i) ≡ i
unfolding drawn
length-drawn key symbols zero = refl
length-drawn key symbols (suc i) =
    omega (
      arith,
      length-append (drawn key symbols i)
          (get_or (unchosen symbols (drawn key symbols i)) (pick (key_word key (1 + i)) (symbols - i)) 0 ∷ []),
      length-drawn key symbols i,
    )

-- an unchosen number is not chosen
apart-unchosen : (n : ℕ) (chosen : List ℕ) → All (λ s. list_any (λ x. eqb x s) chosen ≡ false) (unchosen n chosen)
unfolding unchosen
apart-unchosen n chosen k d lt =
    not-true _ (filter_passes (λ s. not (list_any (λ x. eqb x s) chosen)) (range_with_len 0 n) k d lt)

distinct-push : (xs : List ℕ) (y : ℕ) → AllPairs (λ a b. a ≢ b) xs → list_any (λ x. eqb x y) xs ≡ false
    → AllPairs (λ a b. a ≢ b) (xs ++ y ∷ [])
distinct-push xs y pairs new i j d lt l same =
    let long = length-append xs (y ∷ []) in
    let left : get_or (xs ++ y ∷ []) i d ≡ get_or xs i d = get_or_append_left xs (y ∷ []) d i (omega arith) in
    ⊎_elim
    (λ (a : j < length xs). pairs i j d lt a (sym left ∙ same ∙ get_or_append_left xs (y ∷ []) d j a))
    (λ (a : length xs ≤ j).
    let at : length xs ≡ j = omega arith in
    let equal : get_or xs i d ≡ y = sym left ∙ same ∙ last_at xs y j d at in
    both_ways _ new (list_any_at (λ x. eqb x y) xs i d (omega arith) (eq-eqb (get_or xs i d) y equal)))
    (cases_lt j (length xs))

-- one contributor more
distinct-more : (symbols place : ℕ) (chosen : List ℕ) → AllPairs (λ a b. a ≢ b) chosen → place + length chosen < symbols
    → AllPairs (λ a b. a ≢ b) (chosen ++ get_or (unchosen symbols chosen) place 0 ∷ [])
distinct-more symbols place chosen distinct lt =
    let within : place < length (unchosen symbols chosen) =
    omega (arith, length-unchosen chosen distinct symbols, count_by-le-length (λ c. ltb c symbols) chosen) in
    distinct-push chosen (get_or (unchosen symbols chosen) place 0) distinct (apart-unchosen symbols chosen place 0 within)

-- the drawn contributors are distinct
pub distinct-drawn : (key : List ℕ) (symbols i : ℕ) → i ≤ symbols → AllPairs (λ a b. a ≢ b) (drawn key symbols i)
unfolding drawn
distinct-drawn key symbols zero le = λ i j d lt l. absurd (omega arith)
distinct-drawn key symbols (suc i) le =
    let place = pick (key_word key (1 + i)) (symbols - i) in
    let low : place < symbols - i =
    pick-below (key_word key (1 + i)) (symbols - i) (key_word-small key (1 + i)) (omega arith) in
    let long = length-drawn key symbols i in
    distinct-more symbols place (drawn key symbols i) (distinct-drawn key symbols i (omega arith)) (omega arith)

distinct-systematic : (symbols first m : ℕ)
    → AllPairs (λ a b. a ≢ b) (map (λ i. first + i) (range_with_len 0 (min symbols (first + m) - first)))
distinct-systematic symbols first m i j d lt l same =
    let degree : ℕ = min symbols (first + m) - first in
    let numbers : List ℕ = map (λ i. first + i) (range_with_len 0 degree) in
    let long : length numbers ≡ degree = length-map-range_with_len (λ i. first + i) 0 degree in
    let at : (k : ℕ) → k < length numbers → get_or numbers k d ≡ first + k =
    λ k within. get_or-map-range_with_len (λ i. first + i) 0 degree k k d (omega arith) (omega arith) in
    let a = at i (omega arith) in
    let b = at j l in
    absurd (omega arith)

distinct_of_either : (b : Bool) (x y : BatchData) → AllPairs (λ a b. a ≢ b) x.contributors
    → AllPairs (λ a b. a ≢ b) y.contributors → AllPairs (λ a b. a ≢ b) (cond b x y).contributors
distinct_of_either true x y p q = p
distinct_of_either false x y p q = q

distinct-batch_of : (s : SessionData) (n : ℕ) → AllPairs (λ a b. a ≢ b) (batch_of s n).contributors
unfolding batch_of systematic_batch_of sampled_batch_of
distinct-batch_of s n =
    distinct_of_either (is_systematic_batch s n) (systematic_batch_of s n) (sampled_batch_of s n)
    (distinct-systematic (symbols_of s) (n * s.m) s.m)
    (distinct-drawn (batch_key s.seed n) (symbols_of s)
    (min (degree_at (degree_table s.table) (pick (key_word (batch_key s.seed n) 0) 1000)) (symbols_of s)) (omega arith))

-- the contributors of each batch of a session are distinct, and each is the number of a symbol
pub AreContributors-batch_of : (s : SessionData) (n : ℕ) → AreContributors (symbols_of s) (batch_of s n).contributors
AreContributors-batch_of s n = record { distinct = distinct-batch_of s n; below = contributors-batch_of s n }
