use Rattle.std.proofs.Common.{ℕ, ◌≡◌, ◌≢◌, ◌<◌, List, [], ◌∷◌, length, sym, ap, subst, arith, lit<}
use Rattle.std.specs.Prelude.{All, AllPairs, Contains}
use Rattle.std.proofs.lemmas.List.Elements.{All-nil, All-cons}
use Rattle.std.proofs.lemmas.List.Kept.{AllPairs-cons}
use Rattle.gf_rows.specs.declared.operation.Op.{Op}
use Rattle.gf_rows.specs.Matrix.{Grid}
use Rattle.gf_rows.specs.Operation.{FitsRows}
use Rattle.bats_dense.specs.Reduced.{AreTargets}
use Rattle.bats_checks.proofs.tests.reducing.reduce_no_columns.Goals as goal

within : (n : ℕ) → 2 ≡ n → All (λ r. r < n) (1 ∷ 0 ∷ [])
within n e = subst (λ (m : ℕ). All (λ r. r < m) (1 ∷ 0 ∷ [])) e
    (All-cons (λ r. r < 2) 1 (0 ∷ []) (lit< tt) (All-cons (λ r. r < 2) 0 [] (lit< tt) (All-nil (λ r. r < 2))))

distinct : AllPairs {X = ℕ} (λ a b. a ≢ b) (1 ∷ 0 ∷ [])
distinct =
    AllPairs-cons (λ a b. a ≢ b) 1 (0 ∷ [])
    (All-cons (λ b. 1 ≢ b) 0 [] (λ e. absurd (omega (arith, e))) (All-nil (λ b. 1 ≢ b)))
    (AllPairs-cons (λ a b. a ≢ b) 0 [] (All-nil (λ b. 0 ≢ b)) (λ i j d h k. absurd (omega arith)))

two_targets : (m : Grid) (eqs others : List ℕ) → length m.rows ≡ 2 → eqs ≡ 1 ∷ 0 ∷ [] → others ≡ [] → AreTargets m eqs others
two_targets m eqs others n e f =
    subst (λ (xs : List ℕ). AreTargets m xs others) (sym e)
    (subst (λ (ys : List ℕ). AreTargets m (1 ∷ 0 ∷ []) ys) (sym f)
    (record {
      eqs_within = within (length m.rows) (sym n);
      others_within = All-nil (λ r. r < length m.rows);
      distinct = distinct;
      apart = All-nil (λ r. ¬ Contains {X = ℕ} (1 ∷ 0 ∷ []) r);
    }))

pub reduce-requires-clause-targets : goal.reduce-requires-clause-targets
reduce-requires-clause-targets g c =
    two_targets c.in_ok-matrix.matrix c.in_ok-eqs.eqs c.new-others.result (ap (λ (m : Grid). length m.rows) c.in_ok-matrix.ensures) c.in_ok-eqs.ensures c.new-others.ensures

pub reduce-requires-clause-plan : goal.reduce-requires-clause-plan
reduce-requires-clause-plan g c =
    subst (λ (ops : List Op). All (FitsRows (length c.in_ok-matrix.matrix.rows)) ops) (sym c.new-plan.ensures) (All-nil (FitsRows (length c.in_ok-matrix.matrix.rows)))
