-- A flag for each of some numbers: all are set exactly where each number has the property that its flag tells.
use Rattle.std.proofs.Common.{ℕ, ◌↔◌, Bool, List, [], ◌∷◌, All}
use Rattle.std.specs.Prelude.{IsTrue}
use Rattle.std.specs.List.{AllZip}
use Rattle.std.proofs.lemmas.List.Elements.{All-nil, All-cons, All-head, All-tail}

pub all-flags : (P : ℕ → Type 0) (numbers : List ℕ) (flags : List Bool) → AllZip (λ n flag. IsTrue flag ↔ P n) numbers flags
    → (All IsTrue flags ↔ All P numbers)
all-flags P [] [] told = (λ _. All-nil P, λ _. All-nil IsTrue)
all-flags P [] (flag ∷ flags) told = absurd told
all-flags P (n ∷ numbers) [] told = absurd told
all-flags P (n ∷ numbers) (flag ∷ flags) told =
    let rest = all-flags P numbers flags told.1 in (
      λ set. All-cons P n numbers (told.0.0 (All-head IsTrue flag flags set)) (rest.0 (All-tail IsTrue flag flags set)),
      λ each. All-cons IsTrue flag flags (told.0.1 (All-head P n numbers each)) (rest.1 (All-tail P n numbers each)),
    )
