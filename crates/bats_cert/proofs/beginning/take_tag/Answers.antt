use Rattle.std.proofs.Common.{◌==◌, slice_index, arith}
use Rattle.bats_cert.specs.CertificateFile.{certificate_tag}
use Rattle.bats_cert.proofs.Layouts.{eq-false}
use Rattle.bats_cert.proofs.Stopping.{IfErr-exit, FieldStops-by, Stops-breaks}
use Rattle.bats_cert.proofs.beginning.take_tag.Goals as goal

pub returns-in_err-take_field-clause-err : goal.returns-in_err-take_field-clause-err
returns-in_err-take_field-clause-err g c =
    IfErr-exit _ c.from_residual.result c.from_residual.ensures.1
    (λ next. FieldStops-by 1 (λ bytes. slice_index bytes 0 == certificate_tag) (λ bytes. next) (omega (arith, c.take_field.auto.bytes))
    c.in_err-take_field.ensures.err)

pub returns-then-bytes-ne-CERTIFICATE_TAG-clause-err : goal.returns-then-bytes-ne-CERTIFICATE_TAG-clause-err
returns-then-bytes-ne-CERTIFICATE_TAG-clause-err g c = λ next.
    Stops-breaks 1 32 (λ bytes. slice_index bytes 0 == certificate_tag) (λ bytes. next) c.take_field.new.bytes (omega (arith, c.take_field.auto.bytes))
    (eq-false _ certificate_tag c.if-bytes-ne-CERTIFICATE_TAG.true) c.in_ok-take_field.ensures.ok
