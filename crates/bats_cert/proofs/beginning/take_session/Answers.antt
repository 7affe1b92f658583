use Rattle.std.proofs.Common.{is_none, ap, arith}
use Rattle.bats_model.specs.Refusal.{first_broken}
use Rattle.bats_cert.specs.CertificateFile.{session_in}
use Rattle.bats_cert.proofs.Stopping.{IfErr-exit, FieldStops-by, Stops-breaks}
use Rattle.bats_cert.proofs.beginning.take_session.Goals as goal

pub returns-in_err-take_field-clause-err : goal.returns-in_err-take_field-clause-err
returns-in_err-take_field-clause-err g c =
    IfErr-exit _ c.from_residual.result c.from_residual.ensures.1
    (λ next. FieldStops-by 32 (λ bytes. is_none (first_broken bytes)) (λ bytes. next (session_in bytes)) (omega (arith, c.take_field.auto.bytes))
    c.in_err-take_field.ensures.err)

pub returns-in-Err-clause-err : goal.returns-in-Err-clause-err
returns-in-Err-clause-err g c = λ next.
    Stops-breaks 32 0 (λ bytes. is_none (first_broken bytes)) (λ bytes. next (session_in bytes)) c.take_field.new.bytes (omega (arith, c.take_field.auto.bytes))
    (ap is_none c.in-Err.ensures.broken) c.in_ok-take_field.ensures.ok
