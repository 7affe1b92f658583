use Rattle.std.proofs.Common.{ℕ, ◌≡◌, ◌<◌, All, length, take, get_or}
use Rattle.bats_peel.specs.steps.Search.{AreDistinct, local_count}
use Rattle.bats_peel.proofs.counts.batch_counts.Given as goal

abbrev pub invariant-locals : goal.invariant-locals
invariant-locals l = record {
  size : length l.counts.items ≡ l.symbols;
  counts : All AreDistinct l.locals → (s : ℕ) → s < length l.counts.items
      → get_or l.counts.items s 0 ≡ local_count (take l.local-index l.locals) s;
}
