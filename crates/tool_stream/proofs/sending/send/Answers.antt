use Rattle.tool_run.proofs.Writing.{Writes-after}
use Rattle.tool_stream.proofs.sending.send.Goals as goal

pub returns-clause-written : goal.returns-clause-written
returns-clause-written g c answers by = Writes-after c.in_ok-write_header.ensures (c.send_batches.ensures.written answers by)
