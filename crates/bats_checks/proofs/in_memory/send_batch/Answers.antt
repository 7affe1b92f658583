use Rattle.std.proofs.Common.{refl}
use Rattle.bats_world.proofs.SourcePackets.{batch-own}
use Rattle.bats_checks.proofs.in_memory.send_batch.Goals as goal

pub send_packet-requires-clause-of_session : goal.send_packet-requires-clause-of_session
send_packet-requires-clause-of_session g c =
    batch-own c.args.session.now c.args.session.now c.args.number c.in_ok-batch.batch refl c.in_ok-batch.ensures.value
