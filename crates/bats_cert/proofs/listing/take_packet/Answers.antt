use Rattle.std.proofs.Common.{◌≢◌, ◌+◌, ◌==◌, slice_index, MatchOption, subst, arith}
use Rattle.bats_cert.specs.steps.Taken.{IsPacketOf}
use Rattle.bats_model.specs.Records.{packet_tag}
use Rattle.bats_cert.proofs.Layouts.{eq-false}
use Rattle.bats_cert.proofs.Stopping.{IfErr-exit, FieldStops-by, Stops-breaks}
use Rattle.bats_cert.proofs.listing.take_packet.Goals as goal

pub returns-in_err-take_field-clause-err : goal.returns-in_err-take_field-clause-err
returns-in_err-take_field-clause-err g c =
    IfErr-exit _ c.from_residual.result c.from_residual.ensures.1
    (λ next. FieldStops-by (5 + c.args.session.now.m + c.args.session.now.t) (λ bytes. slice_index bytes 0 == packet_tag) (λ bytes. next)
    (omega (arith, c.take_field.auto.bytes, c.requires)) c.in_err-take_field.ensures.err)

pub returns-in-None-clause-err : goal.returns-in-None-clause-err
returns-in-None-clause-err g c = λ next.
    let other : slice_index c.take_field.new.bytes 0 ≢ packet_tag = subst
    (λ found. MatchOption found (slice_index c.take_field.new.bytes 0 ≢ packet_tag) (IsPacketOf c.args.session.now c.take_field.new.bytes)) c.in-None.is
    c.in_ok-packet.ensures in
    Stops-breaks (5 + c.args.session.now.m + c.args.session.now.t) c.args.at (λ bytes. slice_index bytes 0 == packet_tag) (λ bytes. next) c.take_field.new.bytes
    (omega (arith, c.take_field.auto.bytes, c.requires)) (eq-false _ packet_tag other) c.in_ok-take_field.ensures.ok
