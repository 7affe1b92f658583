use Rattle.std.proofs.Common.{◌≡◌, ◌*◌, ◌∙◌, ℕ, refl}
use Rattle.std.proofs.lemmas.Result.{IfOk-weaker}
use Rattle.bats_model.specs.Session.{SessionData, symbols_of}
use Rattle.tool_source.specs.Source.{source_line, counts_line}
use Rattle.tool_source.proofs.sending.line_of_session.Goals as goal

counts_line-is : (s : SessionData) (length symbols batches packets : ℕ) → length ≡ s.file_length → symbols ≡ symbols_of s
    → packets ≡ batches * s.m → counts_line length symbols batches packets ≡ source_line s batches
unfolding source_line
counts_line-is s length symbols batches packets p q r = rw (p, q, r) refl

pub returns : goal.returns
returns c =
    let s = c.args.session.now in
    let packets : c.from.result * c.from-2.result ≡ c.args.batches * s.m = cc (c.from.ensures, c.from-2.ensures, c.m.ensures.value) in
    IfOk-weaker c.counts_text.result _ _
    (λ line e. e ∙ counts_line-is s c.length.result c.symbols.result c.args.batches _ c.length.ensures.value c.symbols.ensures.value packets)
    c.counts_text.ensures
