use Rattle.std.proofs.Common.{◌≡◌, map}
use Rattle.std.specs.List.{range_with_len}
use Rattle.bats_peel.specs.Peeled.{place_of}
use Rattle.bats_decode.specs.steps.Left.{origin_after}
use Rattle.bats_decode.proofs.elimination.origins_of.Given as goal

abbrev pub invariant-symbols : goal.invariant-symbols
invariant-symbols l = l.origins.items ≡ map (λ s. origin_after l.columns (place_of l.left s)) (range_with_len 0 l.s)
