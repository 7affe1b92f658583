use Rattle.std.proofs.Common.{◌+◌, ◌++◌, ◌∷◌, [], ◌∙◌, ap, sym, arith, List, ℕ, append_assoc}
use Rattle.std.specs.Prelude.{map}
use Rattle.std.specs.List.{range_with_len}
use Rattle.std.proofs.lemmas.List.FromFn.{map-range_with_len_more}
use Rattle.bats_peel.proofs.operations.leave_all.Goals as goal

pub rows-preserved : goal.rows-preserved
rows-preserved c =
    let f : ℕ → ℕ = λ r. c.args.first + r in
    c.in_ok-push.ensures.ok ∙ ap (λ (xs : List ℕ). xs ++ (c.args.first + c.rows.r) ∷ []) c.rows.invariant
    ∙ append_assoc c.args.leftover.now (map f (range_with_len 0 c.rows.r)) ((c.args.first + c.rows.r) ∷ [])
    ∙ ap (λ (xs : List ℕ). c.args.leftover.now ++ xs) (sym (map-range_with_len_more f 0 c.rows.r c.rows.r (omega arith)))
