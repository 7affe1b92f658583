use Rattle.std.proofs.Common.{ℕ, ◌≡◌, ◌<◌, length, slice_index}
use Rattle.gf_core.specs.Field.{gf_mul, gf_sum}
use Rattle.bats_model.specs.Symbol.{symbol_byte}
use Rattle.bats_cert.proofs.agreeing.add_symbols.Given as goal

abbrev pub invariant-symbols : goal.invariant-symbols
invariant-symbols l = record {
  size : length l.payload ≡ l.session.t;
  bytes : (c : ℕ) → c < l.session.t
      → slice_index l.payload c ≡ gf_sum l.s (λ s. gf_mul (slice_index l.row s) (symbol_byte l.session l.file s c));
}
