use Rattle.std.proofs.Common.{ℕ, ◌≡◌, ◌∙◌, List, length, sym, ap}
use Rattle.std.specs.Bool.{Decides}
use Rattle.std.proofs.lemmas.Bool.Decides.{Decides-eqb}
use Rattle.std.proofs.lemmas.Slice.Eq.{slice_eq-Decides}
use Rattle.bats_cert.specs.steps.Saying.{row_in_file}
use Rattle.bats_cert.proofs.SymbolSums.{length-symbol_row, agrees-payload}
use Rattle.bats_cert.proofs.agreeing.agrees_by_sum.Goals as goal

pub add_symbols-requires-clause-width : goal.add_symbols-requires-clause-width
add_symbols-requires-clause-width c =
    ap (λ (r : List ℕ). length r) c.requires.row ∙ length-symbol_row c.args.session.now c.args.packet.now

pub returns : goal.returns
returns c =
    let both = agrees-payload c.args.session.now c.args.file.now c.add_symbols.new.payload c.args.packet.now c.requires.shape c.requires.is_file
    c.add_symbols.ensures.size (λ b column. c.add_symbols.ensures.bytes b column
    ∙ ap (row_in_file c.args.session.now c.args.file.now b) c.requires.row) in
    let same : Decides c.eq.result (c.add_symbols.new.payload ≡ c.as_slice.result.now) =
    slice_eq-Decides Decides-eqb c.add_symbols.new.payload c.as_slice.result.now c.eq.result c.eq.ensures in
    ((λ e. both.0 (same.0 e ∙ c.as_slice.ensures.value)), (λ h. same.1 (both.1 h ∙ sym c.as_slice.ensures.value)))
