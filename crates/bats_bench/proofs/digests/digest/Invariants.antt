use Rattle.std.proofs.Common.{◌≡◌, ◌<◌, ◌+◌, ◌*◌, ◌%◌, take}
use Rattle.std.specs.Prelude.{fold}
use Rattle.bats_bench.proofs.digests.digest.Given as goal

abbrev pub invariant-loop-byte : goal.invariant-loop-byte
invariant-loop-byte l = record {
  value : l.sum ≡ fold (λ sum byte. (sum * 31 + byte) % 65521) 1 (take l.byte-index l.bytes);
  below : l.sum < 65521;
}
