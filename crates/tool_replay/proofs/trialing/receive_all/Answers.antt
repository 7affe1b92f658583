use Rattle.std.proofs.Common.{take, arith}
use Rattle.std.proofs.lemmas.List.{length-take-le}
use Rattle.tool_replay.proofs.TakenPackets.{has_room}
use Rattle.tool_replay.proofs.trialing.receive_all.Goals as goal

pub receive-requires-clause-few : goal.receive-requires-clause-few
receive-requires-clause-few g c =
    let i = c.packets.packet-index in
    has_room (take i c.args.packets.now) c.packets.decoder.held c.packets.invariant.stands.holds
    (omega (arith, c.requires.few, c.packets-test.true, length-take-le i c.args.packets.now (omega (arith, c.packets-test.true))))
