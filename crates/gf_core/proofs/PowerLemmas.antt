-- The tables of powers and logarithms hold what they say: each rule is a test of a whole table, which is computed.
use Rattle.std.proofs.Common.{ℕ, zero, suc, ◌≡◌, ◌≢◌, ◌<◌, ◌+◌, ◌∙◌, ◌==◌, ◌&&◌, Bool, true, false, ltb, List, [], ◌∷◌, length, get_or, drop, sym, ap, refl, arith}
use Rattle.std.proofs.lemmas.Bool.{eqb-true, ltb-true}
use Rattle.gf_core.specs.declared.tables.TheConstants.{POWERS, LOGARITHMS}
use Rattle.gf_core.specs.Field.{double, doubled}
use Rattle.gf_core.proofs.DoubleLemmas.{doubled-inside}

both_of : (s t : Bool) → (s && t) ≡ true → (s ≡ true) × (t ≡ true)
both_of true true h = (refl, refl)
both_of true false h = cc
both_of false t h = cc

-- each entry after x is the double of the one before it
follow : ℕ → List ℕ → Bool
follow x [] = true
follow x (y ∷ ys) = (y == double x) && follow y ys

follow_at : (x : ℕ) (ys : List ℕ) → follow x ys ≡ true → (i : ℕ) → i < suc (length ys) → get_or (x ∷ ys) i 0 ≡ doubled i x
unfolding follow doubled
follow_at x ys h zero p = refl
follow_at x [] h (suc i) p = absurd (omega arith)
follow_at x (y ∷ ys) h (suc i) p =
    let both = both_of (y == double x) (follow y ys) h in
    follow_at y ys both.1 i (omega arith) ∙ (ap (doubled i) (eqb-true y (double x) both.0) ∙ doubled-inside i x)

-- the entries of the table of powers are the powers of x
pub get_or-POWERS : (i : ℕ) → i < 510 → get_or POWERS i 0 ≡ doubled i 1
unfolding follow double
get_or-POWERS i p = follow_at 1 (drop 1 POWERS) refl i p

-- each entry is a logarithm of its place: a for the first, and then one more
are_logarithms_from : ℕ → List ℕ → Bool
are_logarithms_from a [] = true
are_logarithms_from a (l ∷ ls) = (ltb l 255 && (get_or POWERS l 0 == a)) && are_logarithms_from (suc a) ls

logarithm_at : (a : ℕ) (ls : List ℕ) → are_logarithms_from a ls ≡ true
    → (i j : ℕ) → i < length ls → j ≡ a + i → (get_or ls i 0 < 255) × (doubled (get_or ls i 0) 1 ≡ j)
unfolding are_logarithms_from
logarithm_at a [] h i j p e = absurd (omega arith)
logarithm_at a (l ∷ ls) h zero j p e =
    let both = both_of (ltb l 255 && (get_or POWERS l 0 == a)) (are_logarithms_from (suc a) ls) h in
    let entry = both_of (ltb l 255) (get_or POWERS l 0 == a) both.0 in
    let below : l < 255 = ltb-true l 255 entry.0 in
    let place : a ≡ j = omega arith in
    (below, sym (get_or-POWERS l (omega arith)) ∙ (eqb-true (get_or POWERS l 0) a entry.1 ∙ place))
logarithm_at a (l ∷ ls) h (suc i) j p e =
    let both = both_of (ltb l 255 && (get_or POWERS l 0 == a)) (are_logarithms_from (suc a) ls) h in
    logarithm_at (suc a) ls both.1 i j (omega arith) (omega arith)

tested : are_logarithms_from 1 (drop 1 LOGARITHMS) ≡ true
unfolding are_logarithms_from
tested = refl

-- the entries of the table of logarithms, but the one at 0
pub get_or-LOGARITHMS : (a : ℕ) → a < 256 → a ≢ 0 → (get_or LOGARITHMS a 0 < 255) × (doubled (get_or LOGARITHMS a 0) 1 ≡ a)
get_or-LOGARITHMS zero p h = absurd (h refl)
get_or-LOGARITHMS (suc a) p h = from_one (suc a) a (omega arith) (omega arith)
  where
    from_one : (j i : ℕ) → i < 255 → j ≡ 1 + i → (get_or (drop 1 LOGARITHMS) i 0 < 255) × (doubled (get_or (drop 1 LOGARITHMS) i 0) 1 ≡ j)
    from_one j i p e = logarithm_at 1 (drop 1 LOGARITHMS) tested i j p e
