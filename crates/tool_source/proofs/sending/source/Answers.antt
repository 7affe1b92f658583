use Rattle.std.proofs.Common.{◌≡◌, ◌≤◌, ◌∙◌, ap, subst, ℕ, length, arith}
use Rattle.bats_model.specs.Session.{symbols_of}
use Rattle.tool_source.specs.FileSession.{session_for}
use Rattle.tool_source.proofs.Sourcing.{Attempts-failed, IsReady-read}
use Rattle.tool_source.proofs.sending.source.Goals as goal

pub returns-in_err-file : goal.returns-in_err-file
returns-in_err-file g c =
    Attempts-failed c.args.options.now (g.S.Source.state c.args.input.now) (g.S.Source.state c.read_file.new.input)
    (g.O.Sink.state c.args.output.now) c.in_err-file.field-0.0 _ c.in_err-file.ensures c.from_residual.ensures.1

pub returns-in-Some : goal.returns-in-Some
returns-in-Some g c =
    let o = c.args.options.now in
    let file = c.in_ok-file.file.items in
    let size : c.len.result ≡ length file = omega arith in
    let counted : symbols_of (session_for o (length file)) ≤ 4096 =
    subst (λ (n : ℕ). symbols_of (session_for o n) ≤ 4096) size c.in-Some.ensures.within in
    let session : c.in-Some.session ≡ session_for o (length file) = c.in-Some.ensures.some ∙ ap (session_for o) size in
    c.send.ensures (g.S.Source.state c.args.input.now) (g.S.Source.state c.read_file.new.input)
    (IsReady-read o (g.S.Source.state c.args.input.now) (g.S.Source.state c.read_file.new.input) file c.in-Some.session (omega arith)
    c.in_ok-file.ensures counted session)
