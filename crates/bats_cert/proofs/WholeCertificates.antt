-- Certificates as they are read, from the beginning to the end.
use Rattle.std.proofs.Common.{◌≡◌, ◌≢◌, ℕ, ◌+◌, ◌*◌, ◌≤◌, List, [], ◌∷◌, ◌++◌, length, All, None, Result, Ok, Err, IsErrAnd, refl, sym, ap, subst, ◌∙◌, append-nil, length-append, arith}
use Rattle.std.proofs.lemmas.Nat.{mul-le}
use Rattle.std.specs.Int.{w32, to_be_bytes}
use Rattle.gf_rows.specs.Matrix.{Grid}
use Rattle.bats_io.specs.Streams.{InputState, IsRead}
use Rattle.bats_io.proofs.ReadLemmas.{IsRead-after}
use Rattle.bats_model.specs.Session.{SessionData, IsSession, symbols_of}
use Rattle.bats_model.specs.Records.{header_record}
use Rattle.bats_model.specs.PacketFile.{HasShape}
use Rattle.bats_model.specs.declared.packet.Packet.{Packet}
use Rattle.bats_format.proofs.RecordLemmas.{length-header_record}
use Rattle.bats_cert.specs.Shown.{AreFactors, IsFitBody, IsFit, most_listed}
use Rattle.bats_cert.specs.CertificateFile.{Layout, nothing, fields, certificate_tag, kind_of, begin_bytes, packets_bytes, rows_bytes, body_bytes, certificate_bytes, row_fields, packet_fields, body_fields, begin_fields, certificate_fields, first_wrong}
use Rattle.bats_cert.specs.CertificateReading.{ReadsWhole, ReadsCertificate, most_read}
use Rattle.bats_cert.specs.steps.Parts.{GoesOn, StopCause, Stops}
use Rattle.bats_cert.specs.steps.Taken.{byte_of, HasBegin, HasPackets, HasBody, HasSize, most_of_body}
use Rattle.bats_cert.specs.declared.certificate.Body.{Body}
use Rattle.bats_cert.specs.declared.certificate.Body.TheVariants.{One, Two, Zero}
use Rattle.bats_cert.specs.declared.certificate.Certificate.{Certificate}
use Rattle.bats_cert.specs.declared.beginning.Kind.{Kind}
use Rattle.bats_cert.specs.declared.cert_end.CertEnd.{CertEnd}
use Rattle.bats_cert.specs.declared.cert_end.CertEnd.TheVariants as ends
use Rattle.bats_cert.proofs.Layouts.{GoesOn-after, byte_of-le, begin-goes, packets-go}
use Rattle.bats_cert.proofs.Stopping.{HasRead-after, HasReadAll-after, Stops-after, Stops-wider}
use Rattle.bats_cert.proofs.Sequences.{length-packets_bytes}
use Rattle.bats_cert.proofs.BodyParts.{file-goes, all_rows-go, to_rows, to_zero_end}

-- ---- what follows what was read

-- what is to stand behind the beginning
abbrev pub behind_begin : SessionData → ℕ → ℕ → Layout
behind_begin session kind count = packet_fields session count (body_fields session kind count)

pub length-begin_bytes : (session : SessionData) (kind count : ℕ) → IsSession session → length (begin_bytes session kind count) ≡ 38
unfolding begin_bytes
length-begin_bytes session kind count is =
    let front : List ℕ = certificate_tag ∷ kind ∷ [] in
    omega (arith, length-header_record session is, length-append (header_record session) front, length-append (header_record session ++ front) (to_be_bytes w32 count))

no_more_packets : (session : SessionData) (packets : List Packet) (next : Layout) → All (HasShape session) packets
    → GoesOn (packet_fields session (length packets + 0) next) (packets_bytes packets) next
unfolding fields
no_more_packets session packets next shapes = packets-go session next packets 0 shapes

pub all_packets-go : (session : SessionData) (packets : List Packet) (count : ℕ) (next : Layout) → All (HasShape session) packets → length packets ≡ count
    → GoesOn (packet_fields session count next) (packets_bytes packets) next
all_packets-go session packets count next shapes number =
    let all : length packets + 0 ≡ count = omega (arith, number) in
    subst (λ (n : ℕ). GoesOn (packet_fields session n next) (packets_bytes packets) next) all (no_more_packets session packets next shapes)

HasSize-of : (packets : List Packet) (symbols : ℕ) (rows : Grid) → AreFactors packets symbols rows → HasSize rows symbols (length packets)
HasSize-of packets symbols rows h = record { matrix = h.matrix; number = h.number; width = h.width }

body-goes : (session : SessionData) (packets : List Packet) (body : Body) → IsSession session → IsFitBody session packets body
    → GoesOn (body_fields session (kind_of body) (length packets)) (body_bytes body) nothing
body-goes session packets (One file rows) is fit =
    GoesOn-after file (rows_bytes rows.rows) (file-goes session (row_fields (symbols_of session) (length packets)) file fit.0.size)
    (all_rows-go rows (symbols_of session) (length packets) (HasSize-of packets (symbols_of session) rows fit.1))
body-goes session packets (Two at_symbol first second rows) is fit =
    GoesOn-after (to_be_bytes w32 at_symbol ++ first ++ second) (rows_bytes rows.rows)
    (to_rows session (length packets) at_symbol first second is fit.0 fit.1.size fit.2.size)
    (all_rows-go rows at_symbol (length packets) (HasSize-of packets at_symbol rows fit.3))
body-goes session packets (Zero column factors) is fit = to_zero_end session (length packets) column factors is fit.0 fit.1

kind_of-le : (body : Body) → kind_of body ≤ 2
kind_of-le (One file rows) = omega arith
kind_of-le (Two at_symbol first second rows) = omega arith
kind_of-le (Zero column factors) = omega arith

certificate-goes : (cert : Certificate) → IsSession cert.session → IsFit cert → GoesOn certificate_fields (certificate_bytes cert) nothing
unfolding certificate_fields certificate_bytes
certificate-goes cert is fit =
    let kind : ℕ = kind_of cert.body in
    let count : ℕ = length cert.packets in
    GoesOn-after (begin_bytes cert.session kind count ++ packets_bytes cert.packets) (body_bytes cert.body)
    (GoesOn-after (begin_bytes cert.session kind count) (packets_bytes cert.packets)
    (begin-goes cert.session kind count behind_begin is (kind_of-le cert.body) fit.few)
    (all_packets-go cert.session cert.packets count (body_fields cert.session kind count) fit.shapes refl))
    (body-goes cert.session cert.packets cert.body is fit.body)

-- the bytes of a certificate have no wrong field
pub no_wrong_field : (cert : Certificate) → IsSession cert.session → IsFit cert → first_wrong (certificate_bytes cert) ≡ None
no_wrong_field cert is fit =
    ap (λ (bytes : List ℕ). certificate_fields 0 bytes) (sym (append-nil (certificate_bytes cert)))
    ∙ (certificate-goes cert is fit).same 0 []

-- ---- why no certificate is read

-- what stopped the reading before anything was known that takes memory
early : (before after : InputState) (end : CertEnd) → end ≢ ends.Memory → StopCause certificate_fields before after 0 38 end → ReadsCertificate before after (Err end)
early before after (ends.Malformed at) no_memory s = record {
  left = s.left;
  told = s.told;
  wrong = s.wrong;
  read = record { bytes = s.read.bytes; read = s.read.read; within = omega (arith, s.read.within) };
  no_fault = s.no_fault;
}
early before after ends.ReadFault no_memory s = record {
  fault = s.fault;
  read = record { bytes = s.read.bytes; read = s.read.read; within = omega (arith, s.read.within) };
}
early before after ends.Memory no_memory s = absurd (no_memory refl)

in_certificate : {before after : InputState} {end : CertEnd} → Stops (begin_fields behind_begin) before after 0 38 end → Stops certificate_fields before after 0 38 end
unfolding certificate_fields
in_certificate s = s

certificate_begins : (session : SessionData) (kind count : ℕ) → IsSession session → kind ≤ 2 → count ≤ most_listed
    → GoesOn certificate_fields (begin_bytes session kind count) (behind_begin session kind count)
unfolding certificate_fields
certificate_begins session kind count is is_kind few = begin-goes session kind count behind_begin is is_kind few

pub ReadsCertificate-early : (before after : InputState) {end : CertEnd} (result : Result Certificate CertEnd) → IsErrAnd result (λ y. y ≡ end) → end ≢ ends.Memory
    → Stops (begin_fields behind_begin) before after 0 38 end → ReadsCertificate before after result
ReadsCertificate-early before after (Ok cert) is no_memory s = absurd is
ReadsCertificate-early before after {end} (Err other) is no_memory s =
    subst (λ (cause : CertEnd). ReadsCertificate before after (Err cause)) (sym is)
    (early before after end no_memory (in_certificate s).cause)

-- what stopped it behind the beginning
late : (before between after : InputState) (session : SessionData) (kind : Kind) (count : ℕ) (end : CertEnd) → HasBegin before between session kind count
    → StopCause (behind_begin session (byte_of kind) count) between after 38 67409961 end
    → StopCause certificate_fields before after 0 most_read end → ReadsCertificate before after (Err end)
late before between after session kind count (ends.Malformed at) b s whole = record {
  left = whole.left;
  told = whole.told;
  wrong = whole.wrong;
  read = whole.read;
  no_fault = whole.no_fault;
}
late before between after session kind count ends.ReadFault b s whole = record { fault = whole.fault; read = whole.read }
late before between after session kind count ends.Memory b s whole = record {
  session = session;
  kind = byte_of kind;
  count = count;
  is_session = b.is_session;
  is_kind = byte_of-le kind;
  few = b.few;
  more = s.read.bytes;
  taken = IsRead-after before.left between.left after.left (begin_bytes session (byte_of kind) count) s.read.bytes b.part.read s.read.read;
  read = whole.read;
  no_fault = whole.no_fault;
}

pub ReadsCertificate-late : {before between after : InputState} {session : SessionData} {kind : Kind} {count : ℕ} {end : CertEnd} (result : Result Certificate CertEnd)
    → IsErrAnd result (λ y. y ≡ end) → HasBegin before between session kind count
    → Stops (behind_begin session (byte_of kind) count) between after 38 67409961 end → ReadsCertificate before after result
ReadsCertificate-late (Ok cert) is b s = absurd is
ReadsCertificate-late {before} {between} {after} {session} {kind} {count} {end} (Err other) is b s =
    let size = length-begin_bytes session (byte_of kind) count b.is_session in
    let whole = Stops-after (begin_bytes session (byte_of kind) count) most_read (certificate_begins session (byte_of kind) count b.is_session (byte_of-le kind) b.few)
    b.part (omega (arith, size)) (omega (arith, size)) s in
    subst (λ (cause : CertEnd). ReadsCertificate before after (Err cause)) (sym is)
    (late before between after session kind count end b s.cause whole.cause)

-- bytes of so many packets at most
pub packets-most : (session : SessionData) (count : ℕ) → IsSession session → count ≤ most_listed → count * (5 + session.m + session.t) ≤ 17082405
packets-most session count is few =
    let most : count * (5 + session.m + session.t) ≤ 8193 * 2085 = mul-le count (5 + session.m + session.t) 8193 2085 few (omega (arith, is.m_high, is.t_high)) in
    omega (arith, most)

-- the packets aren't read
pub Stops-in_packets : {before after : InputState} {end : CertEnd} (session : SessionData) (kind count : ℕ) → IsSession session → count ≤ most_listed
    → ((next : Layout) → Stops (packet_fields session count next) before after 38 (count * (5 + session.m + session.t)) end)
    → Stops (behind_begin session kind count) before after 38 67409961 end
Stops-in_packets session kind count is few s =
    Stops-wider 67409961 (omega (arith, packets-most session count is few)) (s (body_fields session kind count))

-- the body isn't
pub Stops-in_body : {before between after : InputState} {end : CertEnd} (session : SessionData) (kind count place : ℕ) (packets : List Packet) → IsSession session → count ≤ most_listed
    → HasPackets before between session count packets → place ≡ 38 + count * (5 + session.m + session.t)
    → Stops (body_fields session kind count) between after place most_of_body end → Stops (behind_begin session kind count) before after 38 67409961 end
Stops-in_body session kind count place packets is few p same s =
    let size = length-packets_bytes session packets p.shapes in
    let times : length packets * (5 + session.m + session.t) ≡ count * (5 + session.m + session.t) = ap (λ (n : ℕ). n * (5 + session.m + session.t)) p.number in
    Stops-after (packets_bytes packets) 67409961 (all_packets-go session packets count (body_fields session kind count) p.shapes p.number) p.part
    (omega (arith, size, times, packets-most session count is few)) (omega (arith, size, times, same)) s

-- ---- a certificate is read

parts-whole : (cert : Certificate) (kind count : ℕ) → kind_of cert.body ≡ kind → length cert.packets ≡ count
    → begin_bytes cert.session kind count ++ packets_bytes cert.packets ++ body_bytes cert.body ≡ certificate_bytes cert
unfolding certificate_bytes
parts-whole cert kind count same number =
    λ i. begin_bytes cert.session (sym same i) (sym number i) ++ packets_bytes cert.packets ++ body_bytes cert.body

pub ReadsWhole-of : {before between middle after : InputState} (session : SessionData) (kind : Kind) (count : ℕ) (packets : List Packet) (body : Body)
    → HasBegin before between session kind count → HasPackets between middle session count packets → HasBody middle after session kind count body
    → ReadsWhole before after (record { session = session; packets = packets; body = body })
ReadsWhole-of {before} {between} {middle} {after} session kind count packets body b p q =
    let cert : Certificate = record { session = session; packets = packets; body = body } in
    let front : List ℕ = begin_bytes session (byte_of kind) count ++ packets_bytes packets in
    let all = HasReadAll-after front (body_bytes body) (HasRead-after (begin_bytes session (byte_of kind) count) (packets_bytes packets) b.part p.part) q.all in
    record {
      is_session = b.is_session;
      fit = record { few = omega (arith, b.few, p.number); shapes = p.shapes; body = q.fit packets p.number };
      taken = subst (λ (bytes : List ℕ). IsRead before.left after.left bytes) (parts-whole cert (byte_of kind) count q.same_kind p.number) all.part.read;
      ended = all.ended;
      no_fault = all.part.no_fault;
    }
