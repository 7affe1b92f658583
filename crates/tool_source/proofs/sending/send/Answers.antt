use Rattle.std.proofs.Common.{◌≡◌, ◌∙◌, ap, sym, refl, ℕ, List}
use Rattle.bats_model.specs.Session.{SessionData}
use Rattle.bats_encoder.specs.Encoder.{EncoderData}
use Rattle.tool_source.specs.Source.{source_output}
use Rattle.tool_run.proofs.Writing.{Writes-same}
use Rattle.tool_source.proofs.Sourcing.{Attempts-unsent, Attempts-cut_short, Attempts-done}
use Rattle.tool_source.proofs.sending.send.Goals as goal

pub returns-in_err-line : goal.returns-in_err-line
returns-in_err-line g c = λ before after ready.
    Attempts-unsent c.args.options.now before after (g.O.Sink.state c.args.output.now) c.args.session c.args.file.items _ ready
    c.from_residual.ensures.1

pub returns-in_err-write_output-in-Ok : goal.returns-in_err-write_output-in-Ok
returns-in_err-write_output-in-Ok g c = λ before after ready.
    let o = c.args.options.now in
    let encoded : c.in-Ok.encoder.session ≡ c.args.session = ap (λ (e : EncoderData). e.session) c.in-Ok.ensures.ok in
    let file : c.in-Ok.encoder.file ≡ c.args.file.items = ap (λ (e : EncoderData). e.file) c.in-Ok.ensures.ok ∙ c.from.ensures in
    let output : source_output c.args.session c.args.file.items o.first o.batches
    ≡ source_output c.in-Ok.encoder.session c.in-Ok.encoder.file o.first o.batches =
    sym (ap (λ (s : SessionData). source_output s c.in-Ok.encoder.file o.first o.batches) encoded
    ∙ ap (λ (bytes : List ℕ). source_output c.args.session bytes o.first o.batches) file) in
    Attempts-cut_short o before after (g.O.Sink.state c.args.output.now) (g.O.Sink.state c.write_output.new.output)
    c.args.session c.args.file.items c.in_err-write_output-in-Ok.field-0.0 _
    ready (Writes-same output c.in_err-write_output-in-Ok.ensures)
    c.from_residual-in_err-write_output-in-Ok.ensures.1

pub returns : goal.returns
returns g c = λ before after ready.
    let o = c.args.options.now in
    let encoded : c.in-Ok.encoder.session ≡ c.args.session = ap (λ (e : EncoderData). e.session) c.in-Ok.ensures.ok in
    let file : c.in-Ok.encoder.file ≡ c.args.file.items = ap (λ (e : EncoderData). e.file) c.in-Ok.ensures.ok ∙ c.from.ensures in
    let output : source_output c.args.session c.args.file.items o.first o.batches
    ≡ source_output c.in-Ok.encoder.session c.in-Ok.encoder.file o.first o.batches =
    sym (ap (λ (s : SessionData). source_output s c.in-Ok.encoder.file o.first o.batches) encoded
    ∙ ap (λ (bytes : List ℕ). source_output c.args.session bytes o.first o.batches) file) in
    Attempts-done o before after (g.O.Sink.state c.args.output.now) (g.O.Sink.state c.write_output.new.output)
    c.args.session c.args.file.items _
    ready (Writes-same output c.in_ok-write_output-in-Ok.ensures) refl c.in_ok-line.ensures
