use Rattle.std.proofs.Common.{ℕ, ◌≡◌, ◌<◌, ◌≤◌, ◌+◌, ◌*◌, length, slice_index}
use Rattle.gf_core.specs.Field.{gf_add}
use Rattle.bats_decode.specs.steps.Eliminated.{origin_of}
use Rattle.bats_decode.specs.steps.Answered.{change_at}
use Rattle.bats_decode.proofs.answering.raise.Given as goal

abbrev pub invariant-symbols : goal.invariant-symbols
invariant-symbols l = record {
  size : length l.file ≡ length l.initial.file;
  raised : (s : ℕ) → s < l.s → slice_index l.file (s * l.session.t)
      ≡ gf_add (slice_index l.initial.file (s * l.session.t)) (change_at l.e l.free (origin_of l.e s));
  ahead : (s : ℕ) → l.s ≤ s → slice_index l.file (s * l.session.t) ≡ slice_index l.initial.file (s * l.session.t);
  rest : (s c : ℕ) → 0 < c → c < l.session.t
      → slice_index l.file (s * l.session.t + c) ≡ slice_index l.initial.file (s * l.session.t + c);
}
