use Rattle.std.proofs.Common.{arith}
use Rattle.bats_cert.proofs.Records.{packet-of_parts}
use Rattle.bats_cert.proofs.listing.read_packet.Goals as goal

pub returns : goal.returns
returns c =
    packet-of_parts c.args.session.now c.args.written.now _ _ _ _ c.requires c.if-written-ne-PACKET_TAG.false c.batch_in.type_inv c.batch_in.ensures
    c.in_ok-coefs.ensures c.in_ok-payload.ensures c.as_slice-coefs.ensures.bytes c.as_slice-payload.ensures.bytes
    (omega (arith, c.from-payload_at.ensures, c.m.ensures.value)) (omega (arith, c.from-payload_at.ensures, c.m.ensures.value))
    (omega (arith, c.requires, c.from-payload_at.ensures, c.m.ensures.value))
