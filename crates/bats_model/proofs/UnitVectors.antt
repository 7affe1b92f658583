-- Vectors that are 1 at one place and 0 elsewhere.
use Rattle.std.proofs.Common.{ℕ, ◌≡◌, ◌≢◌, ◌<◌, ◌==◌, ◌+◌, ◌-◌, ◌∙◌, sym, ap, refl, cond, List, length, get_or, take, drop, subst, inl, inr, arith}
use Rattle.std.specs.List.{range_with_len}
use Rattle.std.proofs.lemmas.Bool.{cases_order, cond-true, cond-false, cond_both, eq-eqb, ne_eqb}
use Rattle.std.proofs.lemmas.List.{get_or-drop, length-drop, take_rest}
use Rattle.std.proofs.lemmas.List.Elements.{All-map}
use Rattle.std.proofs.lemmas.List.FromFn.{get_or-map-range_with_len, length-map-range_with_len, fill_by_all}
use Rattle.bats_model.specs.Bytes.{AreBytes}
use Rattle.bats_model.specs.Coded.{unit_vector}

-- the vector is 1 at place j and 0 elsewhere
pub record IsUnitAt (coefs : List ℕ) (j : ℕ) : Type 0 where
  pub within : j < length coefs
  pub entries : coefs ≡ unit_vector (length coefs) j

abbrev unit_entry : ℕ → ℕ → ℕ
unit_entry j i = cond (i == j) 1 0

pub length-unit_vector : (m j : ℕ) → length (unit_vector m j) ≡ m
unfolding unit_vector
length-unit_vector m j = length-map-range_with_len (λ i. cond (i == j) 1 0) 0 m

pub unit_vector-lt : (m j : ℕ) → AreBytes (unit_vector m j)
unfolding unit_vector
unit_vector-lt m j =
    All-map (λ byte. byte < 256) (unit_entry j) (range_with_len 0 m)
    (λ i d within. cond_both (get_or (range_with_len 0 m) i d == j) 1 0 (λ byte. byte < 256) (λ _. omega arith) (λ _. omega arith))

entry-same : (i j : ℕ) → i ≡ j → unit_entry j i ≡ 1
entry-same i j e = cond-true (i == j) 1 0 (eq-eqb i j e)

entry-other : (i j : ℕ) → i ≢ j → unit_entry j i ≡ 0
entry-other i j e = cond-false (i == j) 1 0 (ne_eqb i j e)

entry-of : (v : List ℕ) (j : ℕ) → IsUnitAt v j → (i : ℕ) → i < length v → get_or v i 0 ≡ unit_entry j i
unfolding unit_vector
entry-of v j h i l =
    ap (λ (w : List ℕ). get_or w i 0) h.entries ∙ get_or-map-range_with_len (unit_entry j) 0 (length v) i i 0 l (omega arith)

-- the entry at the place
pub one-at : (v : List ℕ) (j : ℕ) → IsUnitAt v j → get_or v j 0 ≡ 1
one-at v j h = entry-of v j h j h.within ∙ entry-same j j refl

-- the entries elsewhere
pub zero-elsewhere : (v : List ℕ) (j : ℕ) → IsUnitAt v j → (i : ℕ) → i < length v → i ≢ j → get_or v i 0 ≡ 0
zero-elsewhere v j h i l n = entry-of v j h i l ∙ entry-other i j n
