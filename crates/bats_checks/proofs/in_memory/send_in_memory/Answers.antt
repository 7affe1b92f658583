use Rattle.bats_checks.specs.InMemory.{HasReceived}
use Rattle.bats_world.proofs.Finishing.{honest-right}
use Rattle.bats_checks.proofs.in_memory.send_in_memory.Goals as goal

pub returns-clause-honest : goal.returns-clause-honest
returns-clause-honest g c =
    let received : HasReceived c.args.file.now c.batches.receiver = c.batches.invariant.received in
    honest-right c.batches.receiver.held.session received.packets c.args.file.now c.in_ok-solved.solved.answer
    received.agrees (c.in_ok-solved.ensures.right received.packets received.stands)
