use Rattle.std.proofs.Common.{arith}
use Rattle.bats_cert.proofs.Stopping.{Stops-behind}
use Rattle.bats_cert.proofs.filling.take_end.Goals as goal

pub returns-in-Ok-clause-err : goal.returns-in-Ok-clause-err
returns-in-Ok-clause-err g c =
    Stops-behind _ _ c.args.at c.in-Ok.field-0 c.fill.new.buffer (omega (arith, c.fill.auto.buffer)) c.in-Ok.ensures (omega (arith, c.in-Ok.field-0-test))
