-- Fewer packets than contributors outside a set don't fix these.
use Rattle.std.proofs.Common.{ℕ, ◌≡◌, ◌<◌, ◌+◌, ◌∙◌, eqb, cond, not, Bool, true, false, List, [], ◌∷◌, ◌++◌, length, map, get_or, sym, ap, refl, subst, arith, length-append, lit<}
use Rattle.std.specs.Prelude.{All, filter, slice_index_or}
use Rattle.std.specs.List.{range_with_len, count_by}
use Rattle.std.proofs.lemmas.Bool.{eq-eqb, ne_eqb, cond-true, cond-false, cond_both}
use Rattle.std.proofs.lemmas.List.{length-map, take_at, drop_at}
use Rattle.std.proofs.lemmas.List.Elements.{All-append, All-map, All-weaker, All-take, All-drop, All-contains}
use Rattle.std.proofs.lemmas.List.FromFn.{fill_by_all}
use Rattle.std.proofs.lemmas.List.Sums.{length-filter, sum_by-cons}
use Rattle.gf_core.specs.Field.{gf_mul, gf_sum}
use Rattle.gf_core.proofs.SumLemmas.{gf_sum-lt, gf_sum-congruence, gf_sum-one, gf_sum-exchange}
use Rattle.gf_core.proofs.ProductLemmas.{gf_mul-lt, zero-gf_mul, one-gf_mul, gf_mul_assoc, gf_mul-gf_sum, gf_mul-gf_sum_left}
use Rattle.gf_rows.proofs.KernelLemmas.{HasByteEntries, product_sum, NonzeroSolution, kernel, All-from_map}
use Rattle.bats_model.specs.Session.{SessionData}
use Rattle.bats_model.specs.Batch.{batch_of, entry_of}
use Rattle.bats_model.specs.Values.{combined_value, coded_value}
use Rattle.bats_model.specs.Peeling.{is_in, local_value, AreHidden, Fixes}
use Rattle.bats_model.specs.declared.packet.Packet.{Packet}
use Rattle.bats_model.proofs.EachBatch.{entry_of-lt}
use Rattle.bats_peel.specs.OneSet.{unknown_count}
use Rattle.bats_peel.proofs.FixedContributors.{degree_at, symbol_at}
use Rattle.bats_peel.proofs.HeldNumbers.{kept_by, in_range}

-- ---- a packet's equation over the contributors of its batch

-- contributor k's factor in the packet: the sum of the coefficients times the entries of its row of the generator
abbrev pub local_entry : SessionData → ℕ → List ℕ → ℕ → ℕ
local_entry session number coefs k =
    gf_sum session.m (λ j. gf_mul (get_or coefs j 0) (entry_of (batch_of session number) k j))

pub local_entry-lt : (session : SessionData) (number : ℕ) (coefs : List ℕ) (k : ℕ) → local_entry session number coefs k < 256
local_entry-lt session number coefs k =
    gf_sum-lt session.m (λ j. gf_mul (get_or coefs j 0) (entry_of (batch_of session number) k j))
    (λ j _. gf_mul-lt (get_or coefs j 0) (entry_of (batch_of session number) k j) (entry_of-lt session number k j))

-- the value is the sum of the factors times the values
pub local_value-entries : (session : SessionData) (number : ℕ) (coefs : List ℕ) (values : ℕ → ℕ)
    → ((k : ℕ) → k < degree_at session number → values k < 256)
    → local_value session number coefs values ≡ gf_sum (degree_at session number) (λ k. gf_mul (local_entry session number coefs k) (values k))
unfolding local_value
local_value-entries session number coefs values bytes =
    let degree : ℕ = degree_at session number in
    let coef : ℕ → ℕ = λ j. get_or coefs j 0 in
    let entry : ℕ → ℕ → ℕ = λ k j. entry_of (batch_of session number) k j in
    gf_sum-congruence session.m
    (λ j. gf_mul (coef j) (gf_sum degree (λ k. gf_mul (entry k j) (values k))))
    (λ j. gf_sum degree (λ k. gf_mul (gf_mul (coef j) (entry k j)) (values k)))
    (λ j _. gf_mul-gf_sum (coef j) degree (λ k. gf_mul (entry k j) (values k))
    ∙ gf_sum-congruence degree (λ k. gf_mul (coef j) (gf_mul (entry k j) (values k))) (λ k. gf_mul (gf_mul (coef j) (entry k j)) (values k))
    (λ k within. sym (gf_mul_assoc (coef j) (entry k j) (values k) (entry_of-lt session number k j) (bytes k within))))
    ∙ gf_sum-exchange session.m degree (λ j k. gf_mul (gf_mul (coef j) (entry k j)) (values k))
    ∙ gf_sum-congruence degree
    (λ k. gf_sum session.m (λ j. gf_mul (gf_mul (coef j) (entry k j)) (values k)))
    (λ k. gf_mul (local_entry session number coefs k) (values k))
    (λ k _. sym (gf_mul-gf_sum_left session.m (λ j. gf_mul (coef j) (entry k j)) (values k)))

-- with values of the symbols it is the combination of the coded packets
pub local_value-symbols : (session : SessionData) (number : ℕ) (coefs : List ℕ) (x : ℕ → ℕ)
    → combined_value session number coefs x ≡ local_value session number coefs (λ k. x (symbol_at session number k))
unfolding combined_value coded_value local_value
local_value-symbols session number coefs x = refl

-- ---- an equation that says that one contributor's value is 0

abbrev pick_entry : ℕ → ℕ → ℕ
pick_entry at k = cond (eqb k at) 1 0

pick_entry-lt : (at k : ℕ) → pick_entry at k < 256
pick_entry-lt at k = cond_both (eqb k at) 1 0 (λ entry. entry < 256) (λ _. lit< tt) (λ _. lit< tt)

product_sum-pick : (degree at : ℕ) (values : ℕ → ℕ) → at < degree → product_sum degree (pick_entry at) values ≡ values at
product_sum-pick degree at values within =
    gf_sum-one degree (λ k. gf_mul (pick_entry at k) (values k)) at within
    (λ k _ apart. ap (λ e. gf_mul e (values k)) (cond-false (eqb k at) 1 0 (ne_eqb k at apart)) ∙ zero-gf_mul (values k))
    ∙ ap (λ e. gf_mul e (values at)) (cond-true (eqb at at) 1 0 (eq-eqb at at refl)) ∙ one-gf_mul (values at)

-- ---- the equations of the packets, and of the contributors in the set

-- whether contributor k is in the set
abbrev is_known : SessionData → ℕ → List Bool → ℕ → Bool
is_known session number set k = is_in set (symbol_at session number k)

-- the contributors in the set, by their places
abbrev known_places : SessionData → ℕ → List Bool → List ℕ
known_places session number set = filter (is_known session number set) (range_with_len 0 (degree_at session number))

abbrev packet_equations : SessionData → ℕ → List Packet → List (ℕ → ℕ)
packet_equations session number kept = map (λ packet. local_entry session number packet.coefs) kept

abbrev known_equations : SessionData → ℕ → List Bool → List (ℕ → ℕ)
known_equations session number set = map pick_entry (known_places session number set)

abbrev equations : SessionData → ℕ → List Packet → List Bool → List (ℕ → ℕ)
equations session number kept set = packet_equations session number kept ++ known_equations session number set

-- ---- how many they are

one_of : (b : Bool) → cond b 1 0 + cond (not b) 1 0 ≡ 1
one_of true = refl
one_of false = refl

-- elements that pass a test, and those that fail it
both_counts : {X : Type 0} (test : X → Bool) (xs : List X) → count_by test xs + count_by (λ x. not (test x)) xs ≡ length xs
both_counts test [] = refl
both_counts test (x ∷ xs) =
    omega (
      arith,
      both_counts test xs,
      sum_by-cons (λ y. cond (test y) 1 0) x xs,
      sum_by-cons (λ y. cond (not (test y)) 1 0) x xs,
      one_of (test x),
    )

count_by-map : {X : Type 0} (test : X → Bool) (f : ℕ → X) (ns : List ℕ) → count_by test (map f ns) ≡ count_by (λ n. test (f n)) ns
count_by-map test f [] = refl
count_by-map test f (n ∷ ns) =
    sum_by-cons (λ y. cond (test y) 1 0) (f n) (map f ns)
    ∙ ap (λ c. cond (test (f n)) 1 0 + c) (count_by-map test f ns)
    ∙ sym (sum_by-cons (λ k. cond (test (f k)) 1 0) n ns)

-- the entries of a list, read one after another
read_all : (xs : List ℕ) → xs ≡ map (λ k. get_or xs k 0) (range_with_len 0 (length xs))
read_all xs = fill_by_all (λ k. get_or xs k 0) xs (length xs) 0 refl (λ k within. refl)

known_count : (session : SessionData) (number : ℕ) (set : List Bool)
    → length (known_places session number set) ≡ count_by (is_in set) (batch_of session number).contributors
known_count session number set =
    let contributors : List ℕ = (batch_of session number).contributors in
    let range : List ℕ = range_with_len 0 (length contributors) in
    length-filter (is_known session number set) range
    ∙ sym (count_by-map (is_in set) (λ k. get_or contributors k 0) range)
    ∙ ap (λ (xs : List ℕ). count_by (is_in set) xs) (sym (read_all contributors))

fewer_equations : (session : SessionData) (number : ℕ) (kept : List Packet) (set : List Bool)
    → length kept < unknown_count session number set
    → length (equations session number kept set) < degree_at session number
fewer_equations session number kept set few =
    omega (
      arith,
      few,
      length-append (packet_equations session number kept) (known_equations session number set),
      length-map kept (λ packet. local_entry session number packet.coefs),
      length-map (known_places session number set) pick_entry,
      known_count session number set,
      both_counts (is_in set) (batch_of session number).contributors,
    )

-- ---- a solution that isn't all zeros

equations-bytes : (session : SessionData) (number : ℕ) (kept : List Packet) (set : List Bool)
    → All (HasByteEntries (degree_at session number)) (equations session number kept set)
equations-bytes session number kept set =
    let P : (ℕ → ℕ) → Type 0 = HasByteEntries (degree_at session number) in
    All-append P (packet_equations session number kept) (known_equations session number set)
    (All-map P (λ packet. local_entry session number packet.coefs) kept (λ i d within k _. local_entry-lt session number (slice_index_or kept i d).coefs k))
    (All-map P pick_entry (known_places session number set) (λ i d within k _. pick_entry-lt (slice_index_or (known_places session number set) i d) k))

front-of : {X : Type 0} (P : X → Type 0) (xs ys : List X) → All P (xs ++ ys) → All P xs
front-of P xs ys all = subst (All P) (take_at xs ys (length xs) refl) (All-take P (length xs) (xs ++ ys) all)

back-of : {X : Type 0} (P : X → Type 0) (xs ys : List X) → All P (xs ++ ys) → All P ys
back-of P xs ys all = subst (All P) (drop_at xs ys (length xs) refl) (All-drop P (length xs) (xs ++ ys) all)

-- what solves the equations is hidden from the packets
solution-hidden : (session : SessionData) (number : ℕ) (kept : List Packet) (set : List Bool) (values : ℕ → ℕ)
    → ((k : ℕ) → k < degree_at session number → values k < 256)
    → All (λ entries. product_sum (degree_at session number) entries values ≡ 0) (equations session number kept set)
    → AreHidden session number kept set values
solution-hidden session number kept set values bytes solves =
    let degree : ℕ = degree_at session number in
    let P : (ℕ → ℕ) → Type 0 = λ entries. product_sum degree entries values ≡ 0 in
    let of_packets : All (λ (packet : Packet). product_sum degree (local_entry session number packet.coefs) values ≡ 0) kept =
    All-from_map P (λ (packet : Packet). local_entry session number packet.coefs) kept
    (front-of P (packet_equations session number kept) (known_equations session number set) solves) in
    let of_known : All (λ at. product_sum degree (pick_entry at) values ≡ 0) (known_places session number set) =
    All-from_map P pick_entry (known_places session number set)
    (back-of P (packet_equations session number kept) (known_equations session number set) solves) in
    record {
      bytes = bytes;
      zero_inside = λ k within inside.
          sym (product_sum-pick degree k values within)
          ∙ All-contains (λ at. product_sum degree (pick_entry at) values ≡ 0) (known_places session number set) k of_known
          (kept_by (is_known session number set) (range_with_len 0 degree) k (in_range degree k within) inside);
      zero_sums =
          All-weaker (λ packet. product_sum degree (local_entry session number packet.coefs) values ≡ 0)
          (λ packet. local_value session number packet.coefs values ≡ 0)
          (λ packet e. local_value-entries session number packet.coefs values bytes ∙ e) kept of_packets;
    }

pub too_few : (session : SessionData) (number : ℕ) (kept : List Packet) (set : List Bool)
    → length kept < unknown_count session number set → ¬ Fixes session number kept set
too_few session number kept set few fixes =
    let degree : ℕ = degree_at session number in
    let found : NonzeroSolution degree (equations session number kept set) =
    kernel degree (equations session number kept set) (equations-bytes session number kept set) (fewer_equations session number kept set few) in
    found.nonzero (fixes.only_zeros found.values
    (solution-hidden session number kept set found.values found.bytes found.solves) found.place found.within)
