use Rattle.bats_cert.proofs.WrittenParts.{HasWritten-of}
use Rattle.bats_cert.proofs.writing.write_bytes.Goals as goal

pub returns-in-Ok : goal.returns-in-Ok
returns-in-Ok g c = record {
  as_far = HasWritten-of c.args.bytes.now c.in-Ok.ensures.appended c.in-Ok.ensures.unflushed c.in-Ok.ensures.nothing_to_write c.in-Ok.ensures.no_fault;
}

pub returns-in-Err : goal.returns-in-Err
returns-in-Err g c = record { as_far = record { fault = c.in-Err.ensures.failed; prefix = c.in-Err.ensures.prefix } }
