use Rattle.std.proofs.Common.{Ok, Err, inl, ap, ◌∙◌}
use Rattle.tool_run.specs.Streams.{Ends}
use Rattle.tool_records.specs.declared.walking.Next.TheVariants as takes
use Rattle.tool_records.proofs.ReaderAnswers.{item_of, end_of}
use Rattle.tool_records.proofs.WalkSteps.{Gives-item, WalksToItem-held, HasWalked-item, HoldsItem-next, WalksToEnd-ended, Walks-refused}
use Rattle.tool_records.proofs.walking.walk_opened.Goals as goal

pub returns-in-Ok-Halts : goal.returns-in-Ok-Halts
returns-in-Ok-Halts g c start opened =
    let first : Ends = (record { input = start; output = g.O.Sink.state c.args.output.now }) in
    let before : Ends = (record { input = g.S.Source.state c.records.input; output = g.O.Sink.state c.records.output }) in
    let after = g.O.Sink.state c.take.new.output in
    let gives = g.T.Taker.gives c.args.taker.now c.args.tools.now c.records.taker c.records.tools in
    let gives' = g.T.Taker.gives c.args.taker.now c.args.tools.now c.take.new.self c.take.new.tools in
    let h = c.records.invariant start opened in
    let given = Gives-item gives gives' first before after c.records.reader c.session.result.now c.records.item c.take.result (Ok takes.Halts)
    c.session.ensures (c.in-Ok-Halts.is ∙ ap Ok c.in-Ok-Halts.field-0-is) (c.take.ensures c.args.taker.now c.args.tools.now) h in
    record { as_far = WalksToItem-held gives gives' first before after c.records.reader c.records.item (Ok takes.Halts) h given }

pub returns-in-Err : goal.returns-in-Err
returns-in-Err g c start opened =
    let first : Ends = (record { input = start; output = g.O.Sink.state c.args.output.now }) in
    let before : Ends = (record { input = g.S.Source.state c.records.input; output = g.O.Sink.state c.records.output }) in
    let after = g.O.Sink.state c.take.new.output in
    let gives = g.T.Taker.gives c.args.taker.now c.args.tools.now c.records.taker c.records.tools in
    let gives' = g.T.Taker.gives c.args.taker.now c.args.tools.now c.take.new.self c.take.new.tools in
    let h = c.records.invariant start opened in
    let given = Gives-item gives gives' first before after c.records.reader c.session.result.now c.records.item c.take.result (Err c.in-Err.stop)
    c.session.ensures (c.in-Err.is) (c.take.ensures c.args.taker.now c.args.tools.now) h in
    record { as_far = inl (WalksToItem-held gives gives' first before after c.records.reader c.records.item (Err c.in-Err.stop) h given) }

pub records-preserved : goal.records-preserved
records-preserved g c start opened =
    let first : Ends = (record { input = start; output = g.O.Sink.state c.args.output.now }) in
    let before : Ends = (record { input = g.S.Source.state c.records.input; output = g.O.Sink.state c.records.output }) in
    let after = g.O.Sink.state c.take.new.output in
    let gives = g.T.Taker.gives c.args.taker.now c.args.tools.now c.records.taker c.records.tools in
    let gives' = g.T.Taker.gives c.args.taker.now c.args.tools.now c.take.new.self c.take.new.tools in
    let h = c.records.invariant start opened in
    let given = Gives-item gives gives' first before after c.records.reader c.session.result.now c.records.item c.take.result (Ok takes.GoesOn)
    c.session.ensures (c.in-Ok-GoesOn.is ∙ ap Ok c.in-Ok-GoesOn.field-0-is) (c.take.ensures c.args.taker.now c.args.tools.now) h in
    let walked = HasWalked-item gives gives' first before after c.records.reader c.records.item h given in
    let between : Ends = (record { input = before.input; output = after }) in
    let read = g.S.Source.state c.next.new.source in
    HoldsItem-next gives' first between read c.records.reader c.next.new.self c.in-Ok-Some.next walked
    (item_of {y = before.input} {z = read} c.in-Ok-Some.field-0-is c.in-Ok-Some.ensures)

pub returns-in-Ok-None : goal.returns-in-Ok-None
returns-in-Ok-None g c start opened =
    let first : Ends = (record { input = start; output = g.O.Sink.state c.args.output.now }) in
    let before : Ends = (record { input = g.S.Source.state c.records.input; output = g.O.Sink.state c.records.output }) in
    let after = g.O.Sink.state c.take.new.output in
    let gives = g.T.Taker.gives c.args.taker.now c.args.tools.now c.records.taker c.records.tools in
    let gives' = g.T.Taker.gives c.args.taker.now c.args.tools.now c.take.new.self c.take.new.tools in
    let h = c.records.invariant start opened in
    let given = Gives-item gives gives' first before after c.records.reader c.session.result.now c.records.item c.take.result (Ok takes.GoesOn)
    c.session.ensures (c.in-Ok-GoesOn.is ∙ ap Ok c.in-Ok-GoesOn.field-0-is) (c.take.ensures c.args.taker.now c.args.tools.now) h in
    let walked = HasWalked-item gives gives' first before after c.records.reader c.records.item h given in
    let between : Ends = (record { input = before.input; output = after }) in
    let read = g.S.Source.state c.next.new.source in
    record {
      as_far = WalksToEnd-ended gives' first between read c.records.reader c.next.new.self walked
          (end_of {y = before.input} {z = read} c.in-Ok-None.field-0-is c.in-Ok-None.ensures);
    }

pub returns-in-Err-next : goal.returns-in-Err-next
returns-in-Err-next g c start opened =
    let first : Ends = (record { input = start; output = g.O.Sink.state c.args.output.now }) in
    let before : Ends = (record { input = g.S.Source.state c.records.input; output = g.O.Sink.state c.records.output }) in
    let after = g.O.Sink.state c.take.new.output in
    let gives = g.T.Taker.gives c.args.taker.now c.args.tools.now c.records.taker c.records.tools in
    let gives' = g.T.Taker.gives c.args.taker.now c.args.tools.now c.take.new.self c.take.new.tools in
    let h = c.records.invariant start opened in
    let given = Gives-item gives gives' first before after c.records.reader c.session.result.now c.records.item c.take.result (Ok takes.GoesOn)
    c.session.ensures (c.in-Ok-GoesOn.is ∙ ap Ok c.in-Ok-GoesOn.field-0-is) (c.take.ensures c.args.taker.now c.args.tools.now) h in
    let walked = HasWalked-item gives gives' first before after c.records.reader c.records.item h given in
    let between : Ends = (record { input = before.input; output = after }) in
    let read = g.S.Source.state c.next.new.source in
    Walks-refused gives' first between read c.records.reader c.next.new.self c.in-Err-next.end _ c.ending_of.ensures walked c.in-Err-next.ensures
