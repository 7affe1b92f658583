use Rattle.std.proofs.Common.{ℕ, ◌+◌, ◌-◌, ◌<◌, ◌≤◌, length, slice_index}
use Rattle.bats_sampler.proofs.contributors.passed.Given as goal

abbrev pub invariant-loop-index : goal.invariant-loop-index
invariant-loop-index l = record {
  within : l.index ≤ length l.sorted;
  so_far : (k : ℕ) → k < l.index → slice_index l.sorted k ≤ l.place + k;
}

abbrev pub decreases-loop-index : goal.decreases-loop-index
decreases-loop-index l = length l.sorted - l.index
