use Rattle.std.proofs.Common.{◌+◌, ◌∙◌, sym, subst}
use Rattle.std.proofs.lemmas.Bool.{eqb-true}
use Rattle.bats_encoder.specs.Terms.{HasTerms}
use Rattle.bats_encoder.proofs.TermLemmas.{HasTerms-more, HasTerms-zero}
use Rattle.bats_encoder.proofs.encoder.add_contributor.Goals as goal

pub returns-then-eq : goal.returns-then-eq
returns-then-eq c =
    HasTerms-zero c.args.payload.now c.args.session.now c.args.file.now c.args.batch.now c.args.j c.args.k
    (sym c.entry.ensures ∙ eqb-true c.entry.result 0 (sym c.eq.ensures ∙ c.if-eq.true)) c.requires.before

pub returns : goal.returns
returns c =
    subst (λ row. HasTerms row c.args.session.now c.args.file.now c.args.batch.now c.args.j (c.args.k + 1)) (sym c.add_symbol.ensures)
    (HasTerms-more c.args.payload.now c.args.session.now c.args.file.now c.args.batch.now c.args.j c.args.k
    c.multiple_of-term.result.factor c.multiple_of-term.result.row.now c.requires.length
    c.multiple_of-term.ensures.factor c.multiple_of-term.ensures.bytes c.requires.before)
