use Rattle.std.proofs.Common.{nat_lt, arith}
use Rattle.std.specs.Int.{w16, from_be_bytes}
use Rattle.bats_cert.proofs.Layouts.{lt-false}
use Rattle.bats_cert.proofs.Stopping.{IfErr-exit, FieldStops-by, Stops-breaks}
use Rattle.bats_cert.proofs.bodies.take_column.Goals as goal

pub returns-in_err-take_field-clause-err : goal.returns-in_err-take_field-clause-err
returns-in_err-take_field-clause-err g c =
    IfErr-exit _ c.from_residual.result c.from_residual.ensures.1
    (λ next. FieldStops-by 2 (λ bytes. nat_lt (from_be_bytes w16 bytes) c.args.session.now.t) (λ bytes. next) (omega (arith, c.take_field.auto.bytes))
    c.in_err-take_field.ensures.err)

pub returns-then-column-t-clause-err : goal.returns-then-column-t-clause-err
returns-then-column-t-clause-err g c = λ next.
    Stops-breaks 2 c.args.at (λ bytes. nat_lt (from_be_bytes w16 bytes) c.args.session.now.t) (λ bytes. next) c.take_field.new.bytes (omega (arith, c.take_field.auto.bytes))
    (lt-false (from_be_bytes w16 c.take_field.new.bytes) c.args.session.now.t (omega (arith, c.short_in-column.ensures.number, c.if-column-t.true, c.t.ensures.value)))
    c.in_ok-take_field.ensures.ok
