use Rattle.std.proofs.Common.{ℕ, ◌∙◌, List, length, sym, ap, arith}
use Rattle.gf_core.specs.Field.{gf_sum}
use Rattle.bats_model.specs.Batch.{BatchData, degree_of}
use Rattle.bats_model.proofs.SystematicBatches.{columns-batch_of}
use Rattle.bats_cert.specs.steps.Saying.{said_term}
use Rattle.bats_cert.proofs.SymbolSums.{symbol_row-said}
use Rattle.bats_cert.proofs.saying.write_row.Goals as goal

pub add_contributors-requires-clause-width : goal.add_contributors-requires-clause-width
add_contributors-requires-clause-width c =
    ap (λ (r : List ℕ). length r) c.as_slice.ensures.value ∙ c.requires.shape.coefs
    ∙ sym (ap (λ (b : BatchData). b.columns) c.requires.of_session ∙ columns-batch_of c.args.session.now c.args.packet.now.batch)

pub returns : goal.returns
returns c =
    let row : List ℕ = c.add_contributors.new.row in
    symbol_row-said c.args.session.now c.args.packet.now row (c.add_contributors.ensures.length ∙ c.requires.size) (λ u within.
    c.add_contributors.ensures.entries u (omega (arith, within, c.requires.size))
    ∙ ap (λ (coefs : List ℕ). gf_sum (degree_of c.args.batch.now) (said_term c.args.batch.now coefs u)) c.as_slice.ensures.value
    ∙ ap (λ (b : BatchData). gf_sum (degree_of b) (said_term b c.args.packet.now.coefs u)) c.requires.of_session)
