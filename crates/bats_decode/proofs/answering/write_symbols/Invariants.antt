use Rattle.std.proofs.Common.{ℕ, ◌≡◌, ◌<◌, ◌≤◌, ◌+◌, ◌*◌, length, slice_index, slice_index_or}
use Rattle.bats_decode.specs.declared.elimination.Origin.TheVariants.{Row}
use Rattle.bats_decode.specs.steps.Answered.{byte_from}
use Rattle.bats_decode.proofs.answering.write_symbols.Given as goal

abbrev pub invariant-symbols : goal.invariant-symbols
invariant-symbols l = record {
  size : length l.file ≡ length l.initial.file;
  written : (s c : ℕ) → s < l.s → c < l.t
      → slice_index l.file (s * l.t + c) ≡ byte_from l.payload c (slice_index_or l.origins s (Row 0));
  zeros : (i : ℕ) → l.s * l.t ≤ i → slice_index l.file i ≡ 0;
}
