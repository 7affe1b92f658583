use Rattle.std.proofs.Common.{ℕ, ◌∙◌, List, length, get_or, sym, ap, arith}
use Rattle.std.proofs.lemmas.List.{get_or-replicate}
use Rattle.gf_core.specs.Field.{gf_add, gf_mul, gf_sum}
use Rattle.gf_core.proofs.RowLemmas.{get_or-add_scaled_row, length-add_scaled_row}
use Rattle.gf_core.proofs.SumLemmas.{gf_sum-zero, gf_sum-more}
use Rattle.bats_model.specs.Symbol.{symbol_byte}
use Rattle.bats_cert.proofs.agreeing.add_symbols.Goals as goal

pub symbols-init : goal.symbols-init
symbols-init c = record {
  size = c.requires.size;
  bytes = λ b column. ap (λ (r : List ℕ). get_or r b 0) c.requires.zeros
      ∙ get_or-replicate (length c.args.payload.now) b 0 0 (omega (arith, column, c.requires.size))
      ∙ sym (gf_sum-zero (λ s. gf_mul (get_or c.args.row.now s 0) (symbol_byte c.args.session.now c.args.file.now s b)));
}

pub symbols-preserved : goal.symbols-preserved
symbols-preserved c =
    let payload : List ℕ = c.symbols.payload in
    let s : ℕ = c.symbols.s in
    let factor : ℕ = get_or c.args.row.now s 0 in
    let symbol : List ℕ = c.symbol_of.result.now in
    record {
      size = ap (λ (r : List ℕ). length r) c.add_symbol.ensures ∙ length-add_scaled_row payload c.new-factor.result symbol ∙ c.symbols.invariant.size;
      bytes = λ b column.
          let term : ℕ → ℕ = λ k. gf_mul (get_or c.args.row.now k 0) (symbol_byte c.args.session.now c.args.file.now k b) in
          ap (λ (r : List ℕ). get_or r b 0) c.add_symbol.ensures
          ∙ get_or-add_scaled_row payload c.new-factor.result symbol b (omega (arith, column, c.symbols.invariant.size))
          ∙ ap (λ (f : ℕ). gf_add (get_or payload b 0) (gf_mul f (get_or symbol b 0))) c.new-factor.ensures
          ∙ ap (λ (y : ℕ). gf_add y (gf_mul factor (get_or symbol b 0))) (c.symbols.invariant.bytes b column)
          ∙ ap (λ (y : ℕ). gf_add (gf_sum s term) (gf_mul factor y)) (c.symbol_of.ensures.bytes b column)
          ∙ sym (gf_sum-more s term);
    }
