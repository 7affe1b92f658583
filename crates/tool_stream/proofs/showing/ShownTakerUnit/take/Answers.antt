use Rattle.tool_stream.proofs.ShowWalks.{HasShown-more, HasShown-cut}
use Rattle.tool_stream.proofs.showing.ShownTakerUnit.take.Goals as goal

pub returns-in_err-write_item : goal.returns-in_err-write_item
returns-in_err-write_item g c first given so_far =
    HasShown-cut c.args.self.now.headers c.args.self.now.packets c.args.session.now so_far.list c.args.item
    so_far.start (g.O.Sink.state c.args.output.now) (g.O.Sink.state c.write_item.new.output) c.in_err-write_item.field-0.0 c.from_residual.result
    c.from_residual.ensures.1 so_far.given c.in_err-write_item.ensures

pub returns : goal.returns
returns g c first given so_far =
    HasShown-more c.args.self.now.headers c.args.self.now.packets c.add.new.self.headers c.add.new.self.packets c.args.session.now so_far.list c.args.item
    so_far.start (g.O.Sink.state c.args.output.now) (g.O.Sink.state c.write_item.new.output)
    so_far.given c.in_ok-write_item.ensures c.add.ensures.all c.add.ensures.packets
