use Rattle.std.proofs.Common.{ℕ, ◌++◌, ◌∙◌, List, ap, subst}
use Rattle.bats_batch.specs.Held.{HeldData}
use Rattle.bats_model.specs.Session.{SessionData}
use Rattle.tool_run.specs.Streams.{Counters}
use Rattle.tool_sink.specs.Check.{answer_text}
use Rattle.tool_sink.specs.steps.Lines.{held_lines}
use Rattle.tool_sink.specs.steps.Telling.{IsListEnding}
use Rattle.tool_sink.proofs.ToldEndings.{CannotTell-list, HasSolved, HasSolved-solved, Tells-list, TellsAs-cut_short}
use Rattle.tool_sink.proofs.checking.write_lines.Goals as goal

pub returns-in_err-write_bytes : goal.returns-in_err-write_bytes
returns-in_err-write_bytes g c packets first stands all same offers =
    let session = c.args.intake.session in
    let last : Counters = record { coefficients = c.solve_with.new.coef_steps; payloads = c.solve_with.new.steps } in
    let s = c.in_ok-solved.solved in
    let e = c.in_ok-solved.ensures in
    let lines = c.as_bytes.ensures.value ∙ c.in_ok-add_answer.ensures
    ∙ ap (λ (xs : List ℕ). xs ++ answer_text s.answer) c.in_ok-lines.ensures
    ∙ ap (λ (held : HeldData). held_lines session held.batches ++ answer_text s.answer) c.held.ensures in
    let solved : HasSolved session packets s.answer s.packets s.kept s.inactive first last =
    subst (λ (x : SessionData). HasSolved x packets s.answer s.packets s.kept s.inactive first last) same
    (HasSolved-solved packets c.args.intake.decoder s.answer s.packets s.kept s.inactive _ _ first last stands all (e.right packets stands)
    e.packets (e.kept packets stands) (e.inactive packets stands) (e.bound packets stands) offers e.counted) in
    TellsAs-cut_short (IsListEnding session packets) first last _ _ c.in_err-write_bytes.field-0.0 _
    c.from_residual-in_err-write_bytes.ensures.1
    (CannotTell-list session packets c.args.intake.decoder.held s.answer _ _ c.in_err-write_bytes.field-0.0 c.as_bytes.result.now s.packets s.kept
    s.inactive first last stands.holds solved lines c.in_err-write_bytes.ensures)

pub returns : goal.returns
returns g c packets first stands all same offers =
    let session = c.args.intake.session in
    let last : Counters = record { coefficients = c.solve_with.new.coef_steps; payloads = c.solve_with.new.steps } in
    let s = c.in_ok-solved.solved in
    let e = c.in_ok-solved.ensures in
    let lines = c.as_bytes.ensures.value ∙ c.in_ok-add_answer.ensures
    ∙ ap (λ (xs : List ℕ). xs ++ answer_text s.answer) c.in_ok-lines.ensures
    ∙ ap (λ (held : HeldData). held_lines session held.batches ++ answer_text s.answer) c.held.ensures in
    let solved : HasSolved session packets s.answer s.packets s.kept s.inactive first last =
    subst (λ (x : SessionData). HasSolved x packets s.answer s.packets s.kept s.inactive first last) same
    (HasSolved-solved packets c.args.intake.decoder s.answer s.packets s.kept s.inactive _ _ first last stands all (e.right packets stands)
    e.packets (e.kept packets stands) (e.inactive packets stands) (e.bound packets stands) offers e.counted) in
    Tells-list session packets c.args.intake.decoder.held s.answer _ _ c.in_ok-finish.finish c.as_bytes.result.now s.packets s.kept s.inactive
    first last stands.holds solved lines c.in_ok-finish.ensures.status c.in_ok-finish.ensures.line c.in_ok-write_bytes.ensures
