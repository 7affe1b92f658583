use Rattle.std.proofs.Common.{ℕ, List, ◌++◌, length, ap, subst}
use Rattle.bats_model.specs.declared.packet.Packet.{Packet}
use Rattle.bats_cert.specs.CertificateFile.{begin_bytes, packets_bytes, body_bytes}
use Rattle.bats_cert.specs.steps.Written.{HasWritten, HasFailed}
use Rattle.bats_cert.proofs.WrittenParts.{HasWritten-after, HasFailed-after, HasFailed-longer, Writes-exit, certificate_parts}
use Rattle.bats_cert.proofs.writing.write_parts.Goals as goal

pub returns-in_err-write_begin : goal.returns-in_err-write_begin
returns-in_err-write_begin g c =
    let packets : List Packet = c.as_slice-packets.result.now in
    let whole = certificate_parts c.args.cert.now c.kind_byte.result (length packets) packets c.kind_byte.ensures (ap length c.as_slice-packets.ensures) c.as_slice-packets.ensures in
    let front : List ℕ = begin_bytes c.args.cert.now.session c.kind_byte.result (length packets) in
    Writes-exit c.from_residual.result c.from_residual.ensures.1
    (subst (HasFailed _ _) whole (HasFailed-longer (front ++ packets_bytes packets) (body_bytes c.args.cert.now.body)
    (HasFailed-longer front (packets_bytes packets) c.in_err-write_begin.ensures.as_far)))

pub returns-in_err-write_packets : goal.returns-in_err-write_packets
returns-in_err-write_packets g c =
    let packets : List Packet = c.as_slice-packets.result.now in
    let whole = certificate_parts c.args.cert.now c.kind_byte.result (length packets) packets c.kind_byte.ensures (ap length c.as_slice-packets.ensures) c.as_slice-packets.ensures in
    let front : List ℕ = begin_bytes c.args.cert.now.session c.kind_byte.result (length packets) in
    Writes-exit c.from_residual-in_err-write_packets.result c.from_residual-in_err-write_packets.ensures.1
    (subst (HasFailed _ _) whole (HasFailed-longer (front ++ packets_bytes packets) (body_bytes c.args.cert.now.body)
    (HasFailed-after front (packets_bytes packets) c.in_ok-write_begin.ensures.as_far c.in_err-write_packets.ensures.as_far)))

pub returns-in_err-write_body : goal.returns-in_err-write_body
returns-in_err-write_body g c =
    let packets : List Packet = c.as_slice-packets.result.now in
    let whole = certificate_parts c.args.cert.now c.kind_byte.result (length packets) packets c.kind_byte.ensures (ap length c.as_slice-packets.ensures) c.as_slice-packets.ensures in
    let front : List ℕ = begin_bytes c.args.cert.now.session c.kind_byte.result (length packets) in
    Writes-exit c.from_residual-in_err-write_body.result c.from_residual-in_err-write_body.ensures.1
    (subst (HasFailed _ _) whole (HasFailed-after (front ++ packets_bytes packets) (body_bytes c.args.cert.now.body)
    (HasWritten-after front (packets_bytes packets) c.in_ok-write_begin.ensures.as_far c.in_ok-write_packets.ensures.as_far) c.in_err-write_body.ensures.as_far))

pub returns : goal.returns
returns g c =
    let packets : List Packet = c.as_slice-packets.result.now in
    let whole = certificate_parts c.args.cert.now c.kind_byte.result (length packets) packets c.kind_byte.ensures (ap length c.as_slice-packets.ensures) c.as_slice-packets.ensures in
    let front : List ℕ = begin_bytes c.args.cert.now.session c.kind_byte.result (length packets) in
    record {
      as_far = subst (HasWritten _ _) whole (HasWritten-after (front ++ packets_bytes packets) (body_bytes c.args.cert.now.body)
          (HasWritten-after front (packets_bytes packets) c.in_ok-write_begin.ensures.as_far c.in_ok-write_packets.ensures.as_far) c.in_ok-write_body.ensures.as_far);
    }
