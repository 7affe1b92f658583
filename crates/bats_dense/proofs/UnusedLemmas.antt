-- The equations that have no pivot, listed by their places.
use Rattle.std.proofs.Common.{ℕ, ◌≡◌, ◌≢◌, ◌<◌, ◌+◌, ◌∙◌, inl, inr, Bool, true, false, List, [], ◌∷◌, ◌++◌, length, get_or, sym, ap, refl, subst, arith}
use Rattle.std.specs.Prelude.{AllPairs, Contains}
use Rattle.std.proofs.lemmas.Bool.{cases_lt}
use Rattle.std.proofs.lemmas.List.Quantifiers.{all_pairs_push}
use Rattle.std.proofs.lemmas.List.Elements.{All-push, All-weaker, Contains-append_left, Contains-push}
use Rattle.bats_dense.specs.steps.Below.{is_used, IsUnusedRow, AreUnused}

one_more : (i : ℕ) (eqs : List ℕ) (used : List Bool) (row : ℕ) → IsUnusedRow i eqs used row → IsUnusedRow (i + 1) eqs used row
one_more i eqs used row is = record { place = is.place; within = omega (arith, is.within); unused = is.unused; is = is.is }

-- one that has a pivot
pub AreUnused-used : (i : ℕ) (eqs : List ℕ) (used : List Bool) (rows : List ℕ) → AreUnused i eqs used rows → is_used used i ≡ true → AreUnused (i + 1) eqs used rows
AreUnused-used i eqs used rows state is = record {
  are = All-weaker (IsUnusedRow i eqs used) (IsUnusedRow (i + 1) eqs used) (one_more i eqs used) rows state.are;
  each = λ k h unused. elim (cases_lt k i) [
    | inl before ↦ state.each k before unused
    | inr past ↦
        let e : k ≡ i = omega arith in
        let bad : true ≡ false = sym is ∙ (ap (λ (n : ℕ). get_or used n false) (sym e) ∙ unused) in
        absurd (cc)
  ];
  once = state.once;
}

-- one that has none
pub AreUnused-push : (i : ℕ) (eqs : List ℕ) (used : List Bool) (rows : List ℕ) → AreUnused i eqs used rows → i < length eqs → AllPairs (λ a b. a ≢ b) eqs → is_used used i ≡ false
    → AreUnused (i + 1) eqs used (rows ++ get_or eqs i 0 ∷ [])
AreUnused-push i eqs used rows state within distinct is = record {
  are = All-push (IsUnusedRow (i + 1) eqs used) rows (get_or eqs i 0)
      (All-weaker (IsUnusedRow i eqs used) (IsUnusedRow (i + 1) eqs used) (one_more i eqs used) rows state.are)
      (record { place = i; within = omega arith; unused = is; is = refl });
  each = λ k h unused. elim (cases_lt k i) [
    | inl before ↦ Contains-append_left rows (get_or eqs i 0 ∷ []) (get_or eqs k 0) (state.each k before unused)
    | inr past ↦
        let e : i ≡ k = omega arith in
        subst (λ (n : ℕ). Contains (rows ++ get_or eqs i 0 ∷ []) (get_or eqs n 0)) e (Contains-push rows (get_or eqs i 0))
  ];
  once = all_pairs_push (λ a b. a ≢ b) rows (get_or eqs i 0) state.once
      (λ k d h e. let row : IsUnusedRow i eqs used (get_or rows k d) = state.are k d h in distinct row.place i 0 row.within within (row.is ∙ e));
}
