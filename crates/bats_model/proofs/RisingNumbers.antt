-- Rising numbers: lists of them with the same members are one.
use Rattle.std.proofs.Common.{ℕ, zero, suc, ◌≡◌, ◌<◌, ◌≤◌, List, [], ◌∷◌, length, sym, refl, subst, arith}
use Rattle.std.specs.Prelude.{slice_index_or}
use Rattle.std.specs.List.{AllPairs, Contains}
use Rattle.std.proofs.lemmas.List.Kept.{AllPairs-from_increasing}
use Rattle.std.proofs.lemmas.Map.Made.{Contains-tail}
use Rattle.bats_model.specs.Kept.{AreHeld}
use Rattle.bats_model.specs.declared.packet.Packet.{Packet}

abbrev Rise : List ℕ → Type 0
Rise numbers = AllPairs (λ a b. a < b) numbers

Rise-tail : (x : ℕ) (xs : List ℕ) → Rise (x ∷ xs) → Rise xs
Rise-tail x xs up i j d lt within = up (suc i) (suc j) d (omega arith) (omega arith)

-- the first of rising numbers is below those after it, and so is the least
above : (x : ℕ) (xs : List ℕ) (q : ℕ) → Rise (x ∷ xs) → Contains xs q → x < q
above x xs q up at =
    let within = at.1 in
    subst (λ (y : ℕ). x < y) at.2 (up 0 (suc at.0) q (omega arith) (omega arith))

least_at : (x : ℕ) (xs : List ℕ) (q : ℕ) → Rise (x ∷ xs) → (k : ℕ) → k < length (x ∷ xs) → slice_index_or (x ∷ xs) k q ≡ q → x ≤ q
least_at x xs q up zero within e = omega (arith, e)
least_at x xs q up (suc k) within e = let high = above x xs q up (k, omega arith, e) in omega arith

least : (x : ℕ) (xs : List ℕ) (q : ℕ) → Rise (x ∷ xs) → Contains (x ∷ xs) q → x ≤ q
least x xs q up at = least_at x xs q up at.0 at.1 at.2

-- the members after the first are among the others after theirs
later : (x y : ℕ) (xs ys : List ℕ) → Rise (x ∷ xs) → x ≡ y → ((q : ℕ) → Contains (x ∷ xs) q → Contains (y ∷ ys) q)
    → (q : ℕ) → Contains xs q → Contains ys q
later x y xs ys up same there q at =
    let high = above x xs q up at in
    let within = at.1 in
    Contains-tail y ys q (λ e. absurd (omega arith)) (there q (suc at.0, omega arith, at.2))

-- rising lists of the same members are one
pub same_members : (xs ys : List ℕ) → Rise xs → Rise ys → ((q : ℕ) → Contains xs q → Contains ys q)
    → ((q : ℕ) → Contains ys q → Contains xs q) → xs ≡ ys
same_members [] [] up over there back = refl
same_members [] (y ∷ ys) up over there back = let at = back y (0, omega arith, refl) in let within = at.1 in absurd (omega arith)
same_members (x ∷ xs) [] up over there back = let at = there x (0, omega arith, refl) in let within = at.1 in absurd (omega arith)
same_members (x ∷ xs) (y ∷ ys) up over there back =
    let low : x ≤ y = least x xs y up (back y (0, omega arith, refl)) in
    let high : y ≤ x = least y ys x over (there x (0, omega arith, refl)) in
    let same : x ≡ y = omega arith in
    let rest : xs ≡ ys = same_members xs ys (Rise-tail x xs up) (Rise-tail y ys over)
    (later x y xs ys up same there) (later y x ys xs over (sym same) back) in
    cc (same, rest)

-- so the held batches of packets have one list of numbers
pub one_held : (packets : List Packet) (numbers others : List ℕ) → AreHeld packets numbers → AreHeld packets others → numbers ≡ others
one_held packets numbers others h k =
    same_members numbers others (AllPairs-from_increasing numbers h.rising) (AllPairs-from_increasing others k.rising)
    (λ q at. (k.held q).1 ((h.held q).0 at)) (λ q at. (h.held q).1 ((k.held q).0 at))
