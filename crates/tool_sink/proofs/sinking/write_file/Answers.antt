use Rattle.tool_run.specs.Streams.{Counters}
use Rattle.tool_sink.proofs.ToldEndings.{CannotTell-file, HasSolved-solved, Tells-file, TellsAs-cut_short}
use Rattle.tool_sink.specs.steps.Telling.{IsFileEnding}
use Rattle.tool_sink.proofs.sinking.write_file.Goals as goal

pub returns-in_err-write_answer : goal.returns-in_err-write_answer
returns-in_err-write_answer g c packets first stands all offers =
    let session = c.args.decoder.held.session in
    let last : Counters = record { coefficients = c.solve_with.new.coef_steps; payloads = c.solve_with.new.steps } in
    let s = c.in_ok-solved.solved in
    let e = c.in_ok-solved.ensures in
    TellsAs-cut_short (IsFileEnding c.args.both session packets) first last _ _ c.in_err-write_answer.field-0.0 _
    c.from_residual-in_err-write_answer.ensures.1
    (CannotTell-file c.args.both session packets s.answer _ _ c.in_err-write_answer.field-0.0 s.packets s.kept s.inactive first last
    (HasSolved-solved packets c.args.decoder s.answer s.packets s.kept s.inactive _ _ first last stands all (e.right packets stands) e.packets
    (e.kept packets stands) (e.inactive packets stands) (e.bound packets stands) offers e.counted)
    c.in_err-write_answer.ensures)

pub returns : goal.returns
returns g c packets first stands all offers =
    let session = c.args.decoder.held.session in
    let last : Counters = record { coefficients = c.solve_with.new.coef_steps; payloads = c.solve_with.new.steps } in
    let s = c.in_ok-solved.solved in
    let e = c.in_ok-solved.ensures in
    Tells-file c.args.both session packets s.answer _ _ c.in_ok-finish.finish s.packets s.kept s.inactive first last
    (HasSolved-solved packets c.args.decoder s.answer s.packets s.kept s.inactive _ _ first last stands all (e.right packets stands) e.packets
    (e.kept packets stands) (e.inactive packets stands) (e.bound packets stands) offers e.counted)
    c.in_ok-finish.ensures.status c.in_ok-finish.ensures.line c.in_ok-write_answer.ensures
