use Rattle.std.proofs.Common.{ℕ, ◌≡◌, ◌<◌, ◌+◌, ◌*◌, slice_index}
use Rattle.bats_cert.proofs.verifying.says_nothing.Given as goal

abbrev pub invariant-symbols : goal.invariant-symbols
invariant-symbols l = (k : ℕ) → k < l.s → k * l.session.t + l.column < l.session.file_length → slice_index l.sum k ≡ 0
