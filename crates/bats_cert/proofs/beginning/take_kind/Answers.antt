use Rattle.std.proofs.Common.{nat_le, slice_index, arith}
use Rattle.bats_cert.proofs.Layouts.{le-false}
use Rattle.bats_cert.proofs.Stopping.{IfErr-exit, FieldStops-by, Stops-breaks}
use Rattle.bats_cert.proofs.beginning.take_kind.Goals as goal

pub returns-in_err-take_field-clause-err : goal.returns-in_err-take_field-clause-err
returns-in_err-take_field-clause-err g c =
    IfErr-exit _ c.from_residual.result c.from_residual.ensures.1
    (λ next. FieldStops-by 1 (λ bytes. nat_le (slice_index bytes 0) 2) (λ bytes. next (slice_index bytes 0)) (omega (arith, c.take_field.auto.bytes))
    c.in_err-take_field.ensures.err)

pub returns-in-None-clause-err : goal.returns-in-None-clause-err
returns-in-None-clause-err g c = λ next.
    Stops-breaks 1 33 (λ bytes. nat_le (slice_index bytes 0) 2) (λ bytes. next (slice_index bytes 0)) c.take_field.new.bytes (omega (arith, c.take_field.auto.bytes))
    (le-false _ 2 c.in-None.ensures) c.in_ok-take_field.ensures.ok
