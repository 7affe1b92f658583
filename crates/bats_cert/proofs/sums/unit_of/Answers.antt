use Rattle.std.proofs.Common.{◌≡◌, ◌<◌, ◌==◌, ◌∙◌, ℕ, List, length, get_or, cond, set, replicate, inl, inr, ap, sym, subst, arith}
use Rattle.std.proofs.lemmas.Bool.{cases_order, cond-true, cond-false, eq-eqb, ne_eqb}
use Rattle.std.proofs.lemmas.List.{get_or-set_same, get_or-set_other, get_or-replicate, length-set, length-replicate}
use Rattle.std.proofs.lemmas.List.FromFn.{fill_by_all}
use Rattle.bats_model.specs.Coded.{unit_vector}
use Rattle.bats_cert.proofs.sums.unit_of.Goals as goal

-- zeros, but for a 1 at place j
one_among_zeros : (m j : ℕ) → j < m → set (replicate m 0) j 1 ≡ unit_vector m j
unfolding unit_vector
one_among_zeros m j within =
    let zeros : List ℕ = replicate m 0 in
    let long : length zeros ≡ m = length-replicate m 0 in
    let other : (i : ℕ) → i < m → (i ≡ j → ⊥) → get_or (set zeros j 1) i 0 ≡ cond (i == j) 1 0 = λ i h differ.
    get_or-set_other zeros j i 1 0 differ ∙ get_or-replicate m i 0 0 h ∙ sym (cond-false (i == j) 1 0 (ne_eqb i j differ)) in
    fill_by_all (λ i. cond (i == j) 1 0) (set zeros j 1) m 0 (length-set zeros j 1 ∙ long) (λ i h. elim (cases_order i j) [
      | inl e ↦ ap (λ (n : ℕ). get_or (set zeros j 1) n 0) e ∙ get_or-set_same zeros j 1 0 (omega (arith, long)) ∙ sym (cond-true (i == j) 1 0 (eq-eqb i j e))
      | inr (inl lower) ↦ other i h (λ e. omega arith)
      | inr (inr higher) ↦ other i h (λ e. omega arith)
    ])

pub returns : goal.returns
returns c =
    let zeros : c.in_ok-unit.unit.items ≡ replicate c.args.n 0 = c.in_ok-unit.ensures.items_if_clones_equal (λ y same. same) in
    subst (λ items. set items c.args.s 1 ≡ unit_vector c.args.n c.args.s) (sym zeros) (one_among_zeros c.args.n c.args.s c.requires)
