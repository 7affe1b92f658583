use Rattle.std.proofs.Common.{ℕ, ◌≡◌, ◌≢◌, ◌<◌, List, [], ◌∷◌, length, refl, sym, subst, arith, lit<}
use Rattle.std.specs.Prelude.{All, AllPairs, Contains}
use Rattle.std.proofs.lemmas.List.Elements.{All-nil, All-cons, All-contains}
use Rattle.std.proofs.lemmas.List.Kept.{AllPairs-cons}
use Rattle.gf_rows.specs.Matrix.{Grid}
use Rattle.gf_rows.specs.Operation.{FitsRows}
use Rattle.bats_dense.specs.Reduced.{AreTargets}
use Rattle.bats_checks.proofs.tests.reducing.reduce_five_rows.Goals as goal

within : (n : ℕ) → 5 ≡ n → All (λ r. r < n) (0 ∷ 2 ∷ 1 ∷ [])
within n e = subst (λ (m : ℕ). All (λ r. r < m) (0 ∷ 2 ∷ 1 ∷ [])) e
    (All-cons (λ r. r < 5) 0 (2 ∷ 1 ∷ []) (lit< tt) (All-cons (λ r. r < 5) 2 (1 ∷ []) (lit< tt) (All-cons (λ r. r < 5) 1 [] (lit< tt) (All-nil (λ r. r < 5)))))

other_within : (n : ℕ) → 5 ≡ n → All (λ r. r < n) (3 ∷ [])
other_within n e = subst (λ (m : ℕ). All (λ r. r < m) (3 ∷ [])) e (All-cons (λ r. r < 5) 3 [] (lit< tt) (All-nil (λ r. r < 5)))

distinct : AllPairs {X = ℕ} (λ a b. a ≢ b) (0 ∷ 2 ∷ 1 ∷ [])
distinct =
    AllPairs-cons (λ a b. a ≢ b) 0 (2 ∷ 1 ∷ [])
    (All-cons (λ b. 0 ≢ b) 2 (1 ∷ []) (λ e. absurd (omega (arith, e))) (All-cons (λ b. 0 ≢ b) 1 [] (λ e. absurd (omega (arith, e))) (All-nil (λ b. 0 ≢ b))))
    (AllPairs-cons (λ a b. a ≢ b) 2 (1 ∷ [])
    (All-cons (λ b. 2 ≢ b) 1 [] (λ e. absurd (omega (arith, e))) (All-nil (λ b. 2 ≢ b)))
    (AllPairs-cons (λ a b. a ≢ b) 1 [] (All-nil (λ b. 1 ≢ b)) (λ i j d h k. absurd (omega arith))))

apart : ¬ Contains {X = ℕ} (0 ∷ 2 ∷ 1 ∷ []) 3
apart has =
    All-contains (λ x. x ≢ 3) (0 ∷ 2 ∷ 1 ∷ []) 3
    (All-cons (λ x. x ≢ 3) 0 (2 ∷ 1 ∷ []) (λ e. absurd (omega (arith, e)))
    (All-cons (λ x. x ≢ 3) 2 (1 ∷ []) (λ e. absurd (omega (arith, e)))
    (All-cons (λ x. x ≢ 3) 1 [] (λ e. absurd (omega (arith, e))) (All-nil (λ x. x ≢ 3)))))
    has refl

five_targets : (m : Grid) (eqs others : List ℕ) → length m.rows ≡ 5 → eqs ≡ 0 ∷ 2 ∷ 1 ∷ [] → others ≡ 3 ∷ [] → AreTargets m eqs others
five_targets m eqs others n e f =
    subst (λ (xs : List ℕ). AreTargets m xs others) (sym e)
    (subst (λ (ys : List ℕ). AreTargets m (0 ∷ 2 ∷ 1 ∷ []) ys) (sym f)
    (record {
      eqs_within = within (length m.rows) (sym n);
      others_within = other_within (length m.rows) (sym n);
      distinct = distinct;
      apart = All-cons (λ r. ¬ Contains {X = ℕ} (0 ∷ 2 ∷ 1 ∷ []) r) 3 [] apart (All-nil (λ r. ¬ Contains {X = ℕ} (0 ∷ 2 ∷ 1 ∷ []) r));
    }))

pub reduce-requires-clause-targets : goal.reduce-requires-clause-targets
reduce-requires-clause-targets g c =
    five_targets c.in_ok-matrix.matrix c.in_ok-eqs.eqs c.in_ok-others.others c.in_ok-matrix.ensures.rows c.in_ok-eqs.ensures c.in_ok-others.ensures

pub reduce-requires-clause-plan : goal.reduce-requires-clause-plan
reduce-requires-clause-plan g c =
    subst (λ (n : ℕ). All (FitsRows n) c.in_ok-plan.plan) (sym c.in_ok-matrix.ensures.rows) c.in_ok-plan.ensures
