use Rattle.std.proofs.Common.{◌≡◌, ℕ, ◌<◌, ◌+◌, ◌*◌, ◌%◌, length, get_or}
use Rattle.bats_bench.proofs.digests.fixed_row.Given as goal

abbrev pub invariant-loop-i : goal.invariant-loop-i
invariant-loop-i l = record {
  long : length l.row ≡ 100;
  filled : (k : ℕ) → k < l.i → get_or l.row k 0 ≡ (k * 37 + l.first) % 256;
}
