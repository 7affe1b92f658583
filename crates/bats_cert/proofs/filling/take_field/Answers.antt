use Rattle.bats_cert.proofs.Stopping.{FieldStops-cut}
use Rattle.bats_cert.proofs.filling.take_field.Goals as goal

pub returns-then-count-bytes-clause-err : goal.returns-then-count-bytes-clause-err
returns-then-count-bytes-clause-err g c =
    FieldStops-cut _ _ c.args.at c.in-Ok.count c.fill.new.buffer c.in-Ok.ensures c.if-count-bytes.true
