use Rattle.std.proofs.Common.{◌+◌, ◌∙◌, [], ◌∷◌, ◌++◌, length, ap, sym, subst, arith}
use Rattle.bats_format.proofs.Reading.{written}
use Rattle.bats_cert.specs.CertificateFile.{packet_fields}
use Rattle.bats_cert.specs.steps.Taken.{HasPackets}
use Rattle.bats_cert.proofs.Sequences.{HasPackets-more, Stops-packet, Stops-packet_memory}
use Rattle.bats_cert.proofs.Stopping.{IfErr-exit, HasRead-nothing, Stops-memory}
use Rattle.bats_cert.proofs.listing.take_packets.Goals as goal

pub returns-in_err-written-clause-err : goal.returns-in_err-written-clause-err
returns-in_err-written-clause-err g c =
    IfErr-exit _ c.from_residual.result c.from_residual.ensures.1
    (λ next. Stops-memory (packet_fields c.args.session.now c.args.count next) [] 38 _ (HasRead-nothing _) (omega arith))

pub returns-in_err-take_packet-clause-err : goal.returns-in_err-take_packet-clause-err
returns-in_err-take_packet-clause-err g c =
    IfErr-exit _ c.from_residual-in_err-take_packet.result c.from_residual-in_err-take_packet.ensures.1
    (λ next. Stops-packet c.args.session.now c.packets.packets c.packets.i c.args.count c.packet_at-at.result next c.packets.invariant.read c.packets-test.true
    c.packet_at-at.ensures.value c.in_err-take_packet.ensures.err)

pub returns-in_err-push-clause-err : goal.returns-in_err-push-clause-err
returns-in_err-push-clause-err g c =
    IfErr-exit _ c.from_residual-in_err-push.result c.from_residual-in_err-push.ensures.1
    (λ next. Stops-packet_memory c.args.session.now (c.packets.packets ++ c.in_ok-take_packet.field-0 ∷ []) (c.packets.i + 1) c.args.count next
    (HasPackets-more c.args.session.now c.packets.i c.packets.packets c.in_ok-take_packet.field-0 c.packets.invariant.read c.in_ok-take_packet.ensures.ok)
    (omega (arith, c.packets-test.true)))

pub packets-preserved : goal.packets-preserved
packets-preserved g c =
    let same = c.take_packet.auto.written ∙ ap length c.deref_mut.ensures.value in
    record {
      size = ap length (written _ c.packets.written.items c.take_packet.new.written c.packets.written.ok.0 same) ∙ same ∙ c.packets.invariant.size;
      read = subst (HasPackets _ _ c.args.session.now (c.packets.i + 1)) (sym c.in_ok-push.ensures.ok)
          (HasPackets-more c.args.session.now c.packets.i c.packets.packets c.in_ok-take_packet.field-0 c.packets.invariant.read c.in_ok-take_packet.ensures.ok);
    }
