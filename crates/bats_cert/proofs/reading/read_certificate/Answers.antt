use Rattle.bats_cert.specs.steps.Taken.{byte_of}
use Rattle.bats_cert.proofs.WholeCertificates.{behind_begin, ReadsCertificate-early, ReadsCertificate-late, Stops-in_packets, Stops-in_body, ReadsWhole-of}
use Rattle.bats_cert.proofs.reading.read_certificate.Goals as goal

pub returns-in_err-begin : goal.returns-in_err-begin
returns-in_err-begin g c =
    ReadsCertificate-early _ _ c.from_residual.result c.from_residual.ensures.1 c.in_err-begin.ensures.no_memory (c.in_err-begin.ensures.err behind_begin)

pub returns-in_err-packets : goal.returns-in_err-packets
returns-in_err-packets g c =
    let b = c.in_ok-begin.ensures.ok in
    ReadsCertificate-late c.from_residual-in_err-packets.result c.from_residual-in_err-packets.ensures.1 b
    (Stops-in_packets c.in_ok-begin.begin.session (byte_of c.in_ok-begin.begin.kind) c.in_ok-begin.begin.count b.is_session b.few c.in_err-packets.ensures.err)

pub returns-in_err-body : goal.returns-in_err-body
returns-in_err-body g c =
    let b = c.in_ok-begin.ensures.ok in
    ReadsCertificate-late c.from_residual-in_err-body.result c.from_residual-in_err-body.ensures.1 b
    (Stops-in_body c.in_ok-begin.begin.session (byte_of c.in_ok-begin.begin.kind) c.in_ok-begin.begin.count _ c.in_ok-packets.packets b.is_session b.few c.in_ok-packets.ensures.ok
    c.packet_at-at.ensures.value c.in_err-body.ensures.err)

pub returns : goal.returns
returns g c =
    ReadsWhole-of c.in_ok-begin.begin.session c.in_ok-begin.begin.kind c.in_ok-begin.begin.count c.in_ok-packets.packets c.in_ok-body.body
    c.in_ok-begin.ensures.ok c.in_ok-packets.ensures.ok c.in_ok-body.ensures.ok
