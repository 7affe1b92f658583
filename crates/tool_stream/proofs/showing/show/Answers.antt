use Rattle.std.proofs.Common.{Ok, subst}
use Rattle.tool_run.specs.declared.stop.Stop.TheVariants as stops
use Rattle.tool_run.specs.Streams.{Ends}
use Rattle.tool_run.proofs.Attempts.{AttemptsUncounted-exit}
use Rattle.tool_records.specs.declared.walking.WalkEnd.{WalkEnd}
use Rattle.tool_records.specs.Walk.{Walks}
use Rattle.tool_stream.specs.Show.{show_promise}
use Rattle.tool_stream.specs.steps.Shown.{HasShown}
use Rattle.tool_stream.proofs.ShowWalks.{HasShown-nothing, Attempts-stopped, Attempts-unsaid, Attempts-whole, Attempts-refused}
use Rattle.tool_stream.proofs.showing.show.Goals as goal

pub walk-requires : goal.walk-requires
walk-requires g c session = HasShown-nothing session (g.O.Sink.state c.args.output.now)

pub returns-in_err-walk : goal.returns-in_err-walk
returns-in_err-walk g c =
    let before : Ends = (record { input = g.S.Source.state c.args.input.now; output = g.O.Sink.state c.args.output.now }) in
    let after : Ends = (record { input = g.S.Source.state c.walk.new.input; output = g.O.Sink.state c.walk.new.output }) in
    AttemptsUncounted-exit show_promise before after c.in_err-walk.field-0.0 _ c.from_residual.ensures.1
    (Attempts-stopped c.walk.new.taker.headers c.walk.new.taker.packets before after c.in_err-walk.field-0.0 c.in_err-walk.ensures)

pub returns-in_err-done-in-Whole : goal.returns-in_err-done-in-Whole
returns-in_err-done-in-Whole g c =
    let before : Ends = (record { input = g.S.Source.state c.args.input.now; output = g.O.Sink.state c.args.output.now }) in
    let after : Ends = (record { input = g.S.Source.state c.walk.new.input; output = g.O.Sink.state c.walk.new.output }) in
    AttemptsUncounted-exit show_promise before after stops.Memory _ c.from_residual-in_err-done-in-Whole.ensures.1
    (Attempts-unsaid c.walk.new.taker.headers c.walk.new.taker.packets before after c.in_ok-walk.field-0 c.in_ok-walk.ensures)

pub returns-in_err-input_refusal-in-Refused : goal.returns-in_err-input_refusal-in-Refused
returns-in_err-input_refusal-in-Refused g c =
    let before : Ends = (record { input = g.S.Source.state c.args.input.now; output = g.O.Sink.state c.args.output.now }) in
    let after : Ends = (record { input = g.S.Source.state c.walk.new.input; output = g.O.Sink.state c.walk.new.output }) in
    AttemptsUncounted-exit show_promise before after stops.Memory _ c.from_residual-in_err-input_refusal-in-Refused.ensures.1
    (Attempts-unsaid c.walk.new.taker.headers c.walk.new.taker.packets before after c.in_ok-walk.field-0 c.in_ok-walk.ensures)

pub returns-in_ok-done-in-Whole : goal.returns-in_ok-done-in-Whole
returns-in_ok-done-in-Whole g c =
    let before : Ends = (record { input = g.S.Source.state c.args.input.now; output = g.O.Sink.state c.args.output.now }) in
    let after : Ends = (record { input = g.S.Source.state c.walk.new.input; output = g.O.Sink.state c.walk.new.output }) in
    let taker = c.walk.new.taker in
    Attempts-whole taker.headers taker.packets before after c.in_ok-done-in-Whole.field-0
    (subst (λ (end : WalkEnd). Walks (HasShown taker.headers taker.packets) before after (Ok end)) c.in-Whole.is c.in_ok-walk.ensures)
    c.in_ok-done-in-Whole.ensures.status c.in_ok-done-in-Whole.ensures.line

pub returns-in_ok-input_refusal-in-Refused : goal.returns-in_ok-input_refusal-in-Refused
returns-in_ok-input_refusal-in-Refused g c =
    let before : Ends = (record { input = g.S.Source.state c.args.input.now; output = g.O.Sink.state c.args.output.now }) in
    let after : Ends = (record { input = g.S.Source.state c.walk.new.input; output = g.O.Sink.state c.walk.new.output }) in
    let taker = c.walk.new.taker in
    Attempts-refused taker.headers taker.packets before after c.in-Refused.end c.in_ok-input_refusal-in-Refused.field-0
    (subst (λ (end : WalkEnd). Walks (HasShown taker.headers taker.packets) before after (Ok end)) c.in-Refused.is c.in_ok-walk.ensures)
    c.in_ok-input_refusal-in-Refused.ensures.status c.in_ok-input_refusal-in-Refused.ensures.line
