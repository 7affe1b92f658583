use Rattle.std.proofs.Common.{ℕ, ◌≡◌, ◌<◌, length, slice_index}
use Rattle.gf_core.specs.Field.{gf_sum}
use Rattle.bats_cert.specs.steps.Saying.{said_term}
use Rattle.bats_cert.proofs.saying.add_contributors.Given as goal

abbrev pub invariant-contributors : goal.invariant-contributors
invariant-contributors l = record {
  size : length l.row ≡ length l.fn.row;
  entries : (u : ℕ) → u < length l.fn.row → slice_index l.row u ≡ gf_sum l.k (said_term l.batch l.coefs u);
}
