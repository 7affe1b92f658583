use Rattle.std.proofs.Common.{ℕ, ◌≡◌, ◌++◌, ◌∷◌, [], ◌∙◌, List, sym, ap, arith}
use Rattle.std.specs.List.{range_with_len}
use Rattle.bats_peel.proofs.PlaceSums.{range_with_len-more}
use Rattle.bats_peel.proofs.fixing.numbers_below.Goals as goal

pub numbers-init : goal.numbers-init
numbers-init c = c.new-numbers.ensures

pub numbers-preserved : goal.numbers-preserved
numbers-preserved c =
    c.in_ok-push.ensures.ok ∙
    (ap (λ (xs : List ℕ). xs ++ c.numbers.i ∷ []) c.numbers.invariant ∙ sym (range_with_len-more c.numbers.i))

pub returns : goal.returns
returns c =
    let e : c.numbers.i ≡ c.args.count = omega (arith, c.numbers-test.false, c.numbers.auto.i-end) in
    c.numbers.invariant ∙ ap (range_with_len 0) e
