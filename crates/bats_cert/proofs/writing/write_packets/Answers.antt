use Rattle.std.proofs.Common.{ℕ, ◌≡◌, List, ◌+◌, ◌++◌, take, drop, get_or, subst, rules}
use Rattle.bats_model.specs.Records.{packet_record}
use Rattle.bats_model.specs.declared.packet.Packet.{Packet}
use Rattle.bats_cert.specs.CertificateFile.{packets_bytes}
use Rattle.bats_cert.specs.steps.Written.{HasFailed}
use Rattle.bats_cert.proofs.WrittenParts.{HasFailed-after, HasFailed-longer, Writes-exit, pieces-split}
use Rattle.bats_cert.proofs.writing.write_packets.Goals as goal

pub returns-in_err-write_packet : goal.returns-in_err-write_packet
returns-in_err-write_packet g c =
    let packets : List Packet = c.args.packets.now in
    let i : ℕ = c.packets.i in
    let packet : Packet = c.index-packets-i.result in
    let own : get_or packets i packet ≡ packet = search rules in
    let front : List ℕ = packets_bytes (take i packets) in
    let one : List ℕ = packet_record packet.batch packet.coefs packet.payload in
    Writes-exit c.from_residual.result c.from_residual.ensures.1
    (subst (HasFailed _ _) (pieces-split (λ other. packet_record other.batch other.coefs other.payload) packets i packet packet c.packets-test.true own)
    (HasFailed-longer (front ++ one) (packets_bytes (drop (i + 1) packets)) (HasFailed-after front one c.packets.invariant
    (record { fault = c.in_err-write_packet.ensures.failed; prefix = c.in_err-write_packet.ensures.prefix }))))
