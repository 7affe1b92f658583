use Rattle.tool_run.specs.Streams.{Ends}
use Rattle.tool_records.proofs.Keepers.{Keeps-nothing, KeepsAll-stopped, KeepsAll-whole, KeepsAll-refused, KeepsAll-refused_unsaid, KeepsAll-full, KeepsAll-full_unsaid}
use Rattle.tool_records.proofs.keeping.keep_all.Goals as goal

pub walk_opened-requires-clause-begins : goal.walk_opened-requires-clause-begins
walk_opened-requires-clause-begins g c =
    Keeps-nothing (g.H.Holder.holds c.args.keeper.now.holder c.args.keeper.now.holder) c.args.counters.now.steps c.args.reader.now.session
    (g.O.Sink.state c.args.output.now) c.requires.begins

pub returns-in_err-walk_opened : goal.returns-in_err-walk_opened
returns-in_err-walk_opened g c start opened =
    let before : Ends = (record { input = start; output = g.O.Sink.state c.args.output.now }) in
    let after : Ends = (record { input = g.S.Source.state c.walk_opened.new.input; output = g.O.Sink.state c.walk_opened.new.output }) in
    KeepsAll-stopped (g.H.Holder.holds c.args.keeper.now.holder c.walk_opened.new.taker.holder) c.args.counters.now.steps c.walk_opened.new.tools.steps
    before after c.in_err-walk_opened.field-0.0 _ c.from_residual.ensures.1 (c.in_err-walk_opened.ensures start opened)

pub returns-in_err-input_refusal-in-Refused : goal.returns-in_err-input_refusal-in-Refused
returns-in_err-input_refusal-in-Refused g c start opened =
    let before : Ends = (record { input = start; output = g.O.Sink.state c.args.output.now }) in
    let after : Ends = (record { input = g.S.Source.state c.walk_opened.new.input; output = g.O.Sink.state c.walk_opened.new.output }) in
    KeepsAll-refused_unsaid (g.H.Holder.holds c.args.keeper.now.holder c.walk_opened.new.taker.holder) c.args.counters.now.steps c.walk_opened.new.tools.steps
    before after c.in_ok-walk_opened.field-0 c.in-Refused.end _ c.in-Refused.is (c.in_ok-walk_opened.ensures start opened)
    c.from_residual-in_err-input_refusal-in-Refused.ensures.1

pub returns-in_err-refusal-in-Halted : goal.returns-in_err-refusal-in-Halted
returns-in_err-refusal-in-Halted g c start opened =
    let before : Ends = (record { input = start; output = g.O.Sink.state c.args.output.now }) in
    let after : Ends = (record { input = g.S.Source.state c.walk_opened.new.input; output = g.O.Sink.state c.walk_opened.new.output }) in
    KeepsAll-full_unsaid (g.H.Holder.holds c.args.keeper.now.holder c.walk_opened.new.taker.holder) c.args.counters.now.steps c.walk_opened.new.tools.steps
    before after c.in_ok-walk_opened.field-0 _ c.in-Halted.is (c.in_ok-walk_opened.ensures start opened)
    c.from_residual-in_err-refusal-in-Halted.ensures.1

pub returns-in_ok-input_refusal-in-Refused : goal.returns-in_ok-input_refusal-in-Refused
returns-in_ok-input_refusal-in-Refused g c start opened =
    let before : Ends = (record { input = start; output = g.O.Sink.state c.args.output.now }) in
    let after : Ends = (record { input = g.S.Source.state c.walk_opened.new.input; output = g.O.Sink.state c.walk_opened.new.output }) in
    KeepsAll-refused (g.H.Holder.holds c.args.keeper.now.holder c.walk_opened.new.taker.holder) c.args.counters.now.steps c.walk_opened.new.tools.steps
    before after c.in_ok-walk_opened.field-0 c.in-Refused.end c.in_ok-input_refusal-in-Refused.field-0 c.in-Refused.is
    (c.in_ok-walk_opened.ensures start opened) c.in_ok-input_refusal-in-Refused.ensures.status c.in_ok-input_refusal-in-Refused.ensures.line

pub returns-in_ok-refusal-in-Halted : goal.returns-in_ok-refusal-in-Halted
returns-in_ok-refusal-in-Halted g c start opened =
    let before : Ends = (record { input = start; output = g.O.Sink.state c.args.output.now }) in
    let after : Ends = (record { input = g.S.Source.state c.walk_opened.new.input; output = g.O.Sink.state c.walk_opened.new.output }) in
    KeepsAll-full (g.H.Holder.holds c.args.keeper.now.holder c.walk_opened.new.taker.holder) c.args.counters.now.steps c.walk_opened.new.tools.steps
    before after c.in_ok-walk_opened.field-0 c.in_ok-refusal-in-Halted.field-0 c.in-Halted.is
    (c.in_ok-walk_opened.ensures start opened) c.in_ok-refusal-in-Halted.ensures.status c.in_ok-refusal-in-Halted.ensures.line

pub returns-in-Whole : goal.returns-in-Whole
returns-in-Whole g c start opened =
    let before : Ends = (record { input = start; output = g.O.Sink.state c.args.output.now }) in
    let after : Ends = (record { input = g.S.Source.state c.walk_opened.new.input; output = g.O.Sink.state c.walk_opened.new.output }) in
    KeepsAll-whole (g.H.Holder.holds c.args.keeper.now.holder c.walk_opened.new.taker.holder) c.args.counters.now.steps c.walk_opened.new.tools.steps
    before after c.in_ok-walk_opened.field-0 c.in-Whole.is (c.in_ok-walk_opened.ensures start opened)
