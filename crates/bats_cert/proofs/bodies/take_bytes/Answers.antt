use Rattle.bats_cert.proofs.Stopping.{IfErr-exit, FieldStops-memory}
use Rattle.bats_cert.proofs.bodies.take_bytes.Goals as goal

pub returns-in_err-memory-clause-err : goal.returns-in_err-memory-clause-err
returns-in_err-memory-clause-err g c =
    IfErr-exit _ c.from_residual.result c.from_residual.ensures.1 (FieldStops-memory _ c.args.at c.args.size)
