use Rattle.tool_run.proofs.Writing.{Writes-same}
use Rattle.tool_stream.proofs.SentBatches.{output_record-made}
use Rattle.tool_stream.proofs.sending.send_output.Goals as goal

pub returns-clause-written : goal.returns-clause-written
returns-clause-written g c =
    Writes-same (output_record-made c.args.session.now c.args.mixer.now.held.session c.args.mixer.now.seed c.args.number _ _
    c.in_ok-packet.field-0 c.in-Some.packet c.requires.session c.in-Some.is c.in_ok-packet.ensures.output) c.write_packet.ensures
