use Rattle.std.proofs.Common.{refl}
use Rattle.tool_sink.proofs.ReceivedInputs.{received-as}
use Rattle.tool_sink.proofs.receiving.IntakeHolder.hold.Goals as goal

pub returns-clause-held : goal.returns-clause-held
returns-clause-held g c first session packets can =
    received-as session packets c.args.packet.now c.args.self.now (record { session = c.args.self.now.session; decoder = c.offer.new.self }) can
    c.offer.result refl c.offer.ensures.collects
