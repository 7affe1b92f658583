use Rattle.std.proofs.Common.{ℕ, List, Ok, Err, subst, arith}
use Rattle.bats_script.specs.Script.{IsUnlessMemory}
use Rattle.bats_io.specs.Streams.{InputState}
use Rattle.tool_run.specs.Streams.{Counters}
use Rattle.tool_replay.specs.Replay.{script_of_bytes}
use Rattle.tool_replay.proofs.ScriptsRead.{Attempts-no_script, Attempts-too_long, Attempts-unread, IsScriptRead-whole, is_refusal, is_script, script_of_bytes-read}
use Rattle.tool_replay.proofs.replaying.replay.Goals as goal

pub returns-in_err-bytes : goal.returns-in_err-bytes
returns-in_err-bytes g c =
    let before : InputState = g.S.Source.state c.args.input.now in
    let after : InputState = g.S.Source.state c.read_file.new.input in
    let given : Counters = record { coefficients = c.args.counters.now.coef_steps; payloads = c.args.counters.now.steps } in
    Attempts-unread c.args.both c.args.pool before after (g.O.Sink.state c.args.output.now) given given c.in_err-bytes.field-0.0 _
    c.in_err-bytes.ensures c.from_residual.ensures.1

pub returns-then-len-gt-MAX_SCRIPT : goal.returns-then-len-gt-MAX_SCRIPT
returns-then-len-gt-MAX_SCRIPT g c =
    let before : InputState = g.S.Source.state c.args.input.now in
    let after : InputState = g.S.Source.state c.read_file.new.input in
    let given : Counters = record { coefficients = c.args.counters.now.coef_steps; payloads = c.args.counters.now.steps } in
    Attempts-too_long c.args.both c.args.pool before after (g.O.Sink.state c.args.output.now) given given c.in_ok-bytes.bytes.items c.too_long.result
    c.in_ok-bytes.ensures (omega arith) c.too_long.ensures.status c.too_long.ensures.line c.too_long.ensures.stop

pub returns-in-Ok : goal.returns-in-Ok
returns-in-Ok g c =
    let before : InputState = g.S.Source.state c.args.input.now in
    let after : InputState = g.S.Source.state c.read_file.new.input in
    let bytes = c.in_ok-bytes.bytes.items in
    c.play_script.ensures before after
    (IsScriptRead-whole before after bytes c.in-Ok.script c.in_ok-bytes.ensures (omega arith)
    (is_script bytes c.in-Ok.script
    (subst (λ (text : List ℕ). IsUnlessMemory (script_of_bytes text) (Ok c.in-Ok.script)) c.deref.ensures.value
    (script_of_bytes-read c.deref.result.now (Ok c.in-Ok.script) c.in-Ok.ensures.text c.in-Ok.ensures.no_text))))

pub returns : goal.returns
returns g c =
    let before : InputState = g.S.Source.state c.args.input.now in
    let after : InputState = g.S.Source.state c.read_file.new.input in
    let given : Counters = record { coefficients = c.args.counters.now.coef_steps; payloads = c.args.counters.now.steps } in
    let bytes = c.in_ok-bytes.bytes.items in
    Attempts-no_script c.args.both c.args.pool before after (g.O.Sink.state c.args.output.now) given given bytes c.in-Err.end c.no_script.result
    c.in_ok-bytes.ensures (omega arith)
    (is_refusal bytes c.in-Err.end
    (subst (λ (text : List ℕ). IsUnlessMemory (script_of_bytes text) (Err c.in-Err.end)) c.deref.ensures.value
    (script_of_bytes-read c.deref.result.now (Err c.in-Err.end) c.in-Err.ensures.text c.in-Err.ensures.no_text)))
    c.no_script.ensures.status c.no_script.ensures.line c.no_script.ensures.told c.no_script.ensures.stop
