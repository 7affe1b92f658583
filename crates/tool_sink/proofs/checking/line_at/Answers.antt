use Rattle.std.proofs.Common.{ℕ, ◌≡◌, ◌∙◌, List, length, sym, ap, subst}
use Rattle.std.specs.Prelude.{IfOk, string_bytes}
use Rattle.bats_batch.specs.Basis.{BasisData}
use Rattle.bats_model.specs.Batch.{BatchData, degree_of}
use Rattle.tool_sink.proofs.CheckLines.{line_at-numbers}
use Rattle.tool_sink.proofs.checking.line_at.Goals as goal

pub returns : goal.returns
returns c =
    let is = line_at-numbers c.args.session.now c.args.held.now.batches c.args.place c.batch_at-number.result c.degree-degree.result c.rank.result
    c.batch_at-number.ensures
    (c.degree-degree.ensures.value ∙ ap (λ (batch : BatchData). degree_of batch) c.in_ok-batch.ensures.value)
    (c.rank.ensures.value ∙ ap (λ (basis : BasisData). length basis.kept) c.basis_at.ensures.value) in
    subst (λ (bytes : List ℕ). IfOk c.numbers_line.result (λ line. string_bytes line ≡ bytes)) (sym is) c.numbers_line.ensures
