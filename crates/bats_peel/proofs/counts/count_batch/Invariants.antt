use Rattle.std.proofs.Common.{ℕ, ◌≡◌, ◌<◌, ◌≤◌, ◌+◌, ◌^◌, All, length, take}
use Rattle.bats_peel.specs.steps.Search.{AreDistinct}
use Rattle.bats_peel.proofs.Counting.{AreCounted}
use Rattle.bats_peel.proofs.counts.count_batch.Given as goal

abbrev pub invariant-loop-k : goal.invariant-loop-k
invariant-loop-k l = record {
  size : length l.counts.items ≡ length l.fn.counts.items;
  count : (most : ℕ) → most + 1 < 2 ^ 64 → All (λ count. count ≤ most) l.fn.counts.items → AreDistinct l.local
      → AreCounted l.fn.counts.items l.counts.items (take l.k l.local.batch.contributors);
}
