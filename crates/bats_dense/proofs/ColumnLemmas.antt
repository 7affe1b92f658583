-- One equation is made 1 in a column, and all rows beside it are cleared there.
use Rattle.std.proofs.Common.{ℕ, ◌≡◌, ◌≢◌, ◌<◌, ◌+◌, ◌-◌, ◌∙◌, inl, inr, List, [], ◌∷◌, ◌++◌, length, get_or, take, drop, sym, ap, subst, arith}
use Rattle.std.specs.Prelude.{All, Contains}
use Rattle.std.proofs.lemmas.Bool.{cases_lt}
use Rattle.std.proofs.lemmas.List.{length-take, length-drop, get_or-take, get_or-drop}
use Rattle.std.proofs.lemmas.List.Elements.{All-from_get_or, All-take, All-drop, All-contains, All-contains_itself, Contains-get_or, Contains-append_left, Contains-append_right, Contains-append_cases}
use Rattle.gf_rows.specs.declared.operation.Op.{Op}
use Rattle.gf_rows.specs.Matrix.{Grid, matrix_row, matrix_entry}
use Rattle.gf_rows.specs.Performed.{Performed}
use Rattle.gf_rows.proofs.SolutionLemmas.{Performed-then, Performed-weaker, length-performed}
use Rattle.bats_dense.specs.Reduced.{AreTargets}
use Rattle.bats_dense.specs.Kept.{KeepsOutside}
use Rattle.bats_dense.specs.steps.Clearing.{Clears, Normalizes, ClearsColumn}
use Rattle.bats_dense.proofs.ClearLemmas.{Clears-then, Clears-pivot, entry_of_row, one-Contains}

-- the equations before a place, and those after it
abbrev pub earlier_of : List ℕ → ℕ → List ℕ
earlier_of eqs place = take place eqs

abbrev pub later_of : List ℕ → ℕ → List ℕ
later_of eqs place = take (length eqs - (place + 1)) (drop (place + 1) eqs)

length-later_of : (eqs : List ℕ) (place : ℕ) → length (later_of eqs place) ≡ length eqs - (place + 1)
length-later_of eqs place = length-take (length eqs - (place + 1)) (drop (place + 1) eqs) ∙ (omega (arith, length-drop (place + 1) eqs))

get_or-later_of : (eqs : List ℕ) (place k d : ℕ) → k < length (later_of eqs place) → get_or (later_of eqs place) k d ≡ get_or eqs (place + 1 + k) d
get_or-later_of eqs place k d h =
    get_or-take (length eqs - (place + 1)) (drop (place + 1) eqs) k d (omega (arith, length-later_of eqs place)) ∙ get_or-drop (place + 1) eqs k d

-- all are rows of a matrix with this many rows
pub rows_within : (m n : Grid) (rows : List ℕ) → length n.rows ≡ length m.rows → All (λ r. r < length m.rows) rows → All (λ r. r < length n.rows) rows
rows_within m n rows e h = subst (λ (count : ℕ). All (λ r. r < count) rows) (sym e) h

module _ (m : Grid) (eqs others : List ℕ) (place : ℕ) (targets : AreTargets m eqs others) (within : place < length eqs) where
  pub earlier_apart : All (λ r. r ≢ get_or eqs place 0) (earlier_of eqs place)
  earlier_apart =
      All-from_get_or (λ r. r ≢ get_or eqs place 0) (earlier_of eqs place) 0
      (λ k h e. let before : k < place = omega (arith, length-take place eqs) in
      targets.distinct k place 0 before within (sym (get_or-take place eqs k 0 before) ∙ e))

  pub later_apart : All (λ r. r ≢ get_or eqs place 0) (later_of eqs place)
  later_apart =
      All-from_get_or (λ r. r ≢ get_or eqs place 0) (later_of eqs place) 0
      (λ k h e. targets.distinct place (place + 1 + k) 0 (omega arith) (omega (arith, length-later_of eqs place))
      (sym e ∙ get_or-later_of eqs place k 0 h))

  pub others_apart : All (λ r. r ≢ get_or eqs place 0) others
  others_apart = λ k d h e. targets.apart k d h (subst (Contains eqs) (sym e) (Contains-get_or eqs place 0 within))

  pub earlier_within : All (λ r. r < length m.rows) (earlier_of eqs place)
  earlier_within = All-take (λ r. r < length m.rows) place eqs targets.eqs_within

  pub later_within : All (λ r. r < length m.rows) (later_of eqs place)
  later_within =
      All-take (λ r. r < length m.rows) (length eqs - (place + 1)) (drop (place + 1) eqs)
      (All-drop (λ r. r < length m.rows) (place + 1) eqs targets.eqs_within)

-- the equations beside a place are equations
earlier_in : (eqs : List ℕ) (place r : ℕ) → Contains (earlier_of eqs place) r → Contains eqs r
earlier_in eqs place r has =
    All-contains (Contains eqs) (earlier_of eqs place) r (All-take (Contains eqs) place eqs (All-contains_itself eqs)) has

later_in : (eqs : List ℕ) (place r : ℕ) → Contains (later_of eqs place) r → Contains eqs r
later_in eqs place r has =
    All-contains (Contains eqs) (later_of eqs place) r
    (All-take (Contains eqs) (length eqs - (place + 1)) (drop (place + 1) eqs) (All-drop (Contains eqs) (place + 1) eqs (All-contains_itself eqs))) has

-- and each equation but the one there is beside it
beside_has : (eqs : List ℕ) (place k : ℕ) → k < length eqs → k ≢ place → Contains (earlier_of eqs place ++ later_of eqs place) (get_or eqs k 0)
beside_has eqs place k h apart =
    elim (cases_lt k place) [
      | inl before ↦
          Contains-append_left (earlier_of eqs place) (later_of eqs place) (get_or eqs k 0)
          (subst (Contains (earlier_of eqs place)) (get_or-take place eqs k 0 before)
          (Contains-get_or (earlier_of eqs place) k 0 (omega (arith, length-take place eqs))))
      | inr after ↦
          let rest : k - (place + 1) < length (later_of eqs place) = omega (arith, length-later_of eqs place) in
          let at : place + 1 + (k - (place + 1)) ≡ k = omega arith in
          Contains-append_right (earlier_of eqs place) (later_of eqs place) (get_or eqs k 0)
          (subst (Contains (later_of eqs place)) (get_or-later_of eqs place (k - (place + 1)) 0 rest ∙ ap (λ (i : ℕ). get_or eqs i 0) at)
          (Contains-get_or (later_of eqs place) (k - (place + 1)) 0 rest))
    ]

module _ (eqs others : List ℕ) (place column : ℕ) (a b c d e : Grid) (p q r s t : List Op) (targets : AreTargets a eqs others) (within : place < length eqs)
    (scaling : Normalizes (get_or eqs place 0) column a b p q) (before : Clears (get_or eqs place 0) column (earlier_of eqs place) b c q r)
    (after : Clears (get_or eqs place 0) column (later_of eqs place) c d r s) (beside : Clears (get_or eqs place 0) column others d e s t) where
  abbrev pivot : ℕ
  pivot = get_or eqs place 0

  pivot_in : Contains eqs pivot
  pivot_in = Contains-get_or eqs place 0 within

  abbrev equations : List ℕ
  equations = earlier_of eqs place ++ later_of eqs place

  both : Clears pivot column equations b d q s
  both = Clears-then pivot column (earlier_of eqs place) (later_of eqs place) b c d q r s before after

  all : Clears pivot column (equations ++ others) b e q t
  all = Clears-then pivot column equations others b d e q s t both beside

  alone : (row : ℕ) → Contains (pivot ∷ []) row → Contains eqs row
  alone row has = subst (Contains eqs) (sym (one-Contains pivot row has)) pivot_in

  pivot_kept : matrix_row e pivot ≡ matrix_row b pivot
  pivot_kept =
      Clears-pivot pivot column others d e s t beside (others_apart a eqs others place targets within) ∙
      (Clears-pivot pivot column (later_of eqs place) c d r s after (later_apart a eqs others place targets within) ∙
      Clears-pivot pivot column (earlier_of eqs place) b c q r before (earlier_apart a eqs others place targets within))

  beside_only : (row : ℕ) → ¬ Contains eqs row → ¬ Contains others row → ¬ Contains (equations ++ others) row
  beside_only row no_eq no_other has =
      elim (Contains-append_cases equations others row has) [
        | inl some ↦
            elim (Contains-append_cases (earlier_of eqs place) (later_of eqs place) row some) [
              | inl h ↦ no_eq (earlier_in eqs place row h)
              | inr h ↦ no_eq (later_in eqs place row h)
            ]
        | inr h ↦ no_other h
      ]

  ClearsColumn-all : ClearsColumn eqs others place column a e p t
  ClearsColumn-all = record {
    performed = Performed-then (Performed-weaker eqs alone scaling.performed) (Performed-weaker eqs alone all.performed);
    one = entry_of_row b e pivot column pivot_kept ∙ scaling.one;
    eqs_zero = λ k h apart.
        beside.kept (get_or eqs k 0) (All-contains (λ row. matrix_entry d row column ≡ 0) equations (get_or eqs k 0) both.cleared (beside_has eqs place k h apart));
    others_zero = beside.cleared;
    same = λ row j w h.
        all.same row j (subst (λ n. j < n) (sym scaling.performed.cols) w) (scaling.same pivot j h ∙ h) ∙ scaling.same row j h;
    outside = λ row no_eq no_other.
        all.outside row (beside_only row no_eq no_other) ∙ scaling.outside row (λ is. no_eq (subst (Contains eqs) (sym is) pivot_in));
  }

pub ClearsColumn-done : (eqs others : List ℕ) (place column : ℕ) (a b c d e : Grid) (p q r s t : List Op) → AreTargets a eqs others → place < length eqs
    → Normalizes (get_or eqs place 0) column a b p q → Clears (get_or eqs place 0) column (earlier_of eqs place) b c q r
    → Clears (get_or eqs place 0) column (later_of eqs place) c d r s → Clears (get_or eqs place 0) column others d e s t
    → ClearsColumn eqs others place column a e p t
ClearsColumn-done eqs others place column a b c d e p q r s t targets within scaling before after beside =
    ClearsColumn-all eqs others place column a b c d e p q r s t targets within scaling before after beside

-- ---- from one matrix to a later one

pub AreTargets-performed : (sources eqs others : List ℕ) (m n : Grid) (before after : List Op) → Performed sources m n before after → AreTargets m eqs others → AreTargets n eqs others
AreTargets-performed sources eqs others m n before after did targets = record {
  eqs_within = rows_within m n eqs (length-performed did) targets.eqs_within;
  others_within = rows_within m n others (length-performed did) targets.others_within;
  distinct = targets.distinct;
  apart = targets.apart;
}

pub KeepsOutside-then : (eqs others : List ℕ) (a b c : Grid) → KeepsOutside eqs others a b → KeepsOutside eqs others b c → KeepsOutside eqs others a c
KeepsOutside-then eqs others a b c first next = λ row no_eq no_other. next row no_eq no_other ∙ first row no_eq no_other
