use Rattle.bats_cert.proofs.WrittenParts.{some_bytes_of}
use Rattle.bats_cert.proofs.writing.write_certificate.Goals as goal

pub returns-clause-unflushed : goal.returns-clause-unflushed
returns-clause-unflushed g c = c.in_ok-write_parts.ensures.as_far.unflushed (some_bytes_of c.args.cert.now)
