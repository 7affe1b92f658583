use Rattle.std.proofs.Common.{ℕ, ◌≡◌, ◌<◌, length}
use Rattle.bats_decode.specs.steps.Eliminated.{origin_of}
use Rattle.bats_decode.specs.steps.Answered.{change_at}
use Rattle.bats_decode.proofs.answering.first_open.Given as goal

abbrev pub invariant-symbols : goal.invariant-symbols
invariant-symbols l = (k i : ℕ) → k < l.s → i < length l.e.free → change_at l.e i (origin_of l.e k) ≡ 0
