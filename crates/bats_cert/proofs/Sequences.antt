-- Packets and rows that are read one after another.
use Rattle.std.proofs.Common.{◌≡◌, ℕ, suc, ◌+◌, ◌-◌, ◌*◌, ◌<◌, ◌≤◌, List, [], ◌∷◌, ◌++◌, length, take, set, All, flat_map, refl, sym, ap, subst, ◌∙◌, append_assoc, append-nil, length-append, length-take, arith}
use Rattle.std.proofs.lemmas.List.{take_all, take_more_set, length_push}
use Rattle.std.proofs.lemmas.List.Elements.{All-push, All-take}
use Rattle.std.proofs.lemmas.Nat.{mul-le}
use Rattle.gf_rows.specs.Matrix.{Grid, IsMatrix, with_matrix_row}
use Rattle.bats_io.specs.Streams.{InputState}
use Rattle.bats_model.specs.Session.{SessionData}
use Rattle.bats_model.specs.Records.{packet_record}
use Rattle.bats_model.specs.PacketFile.{HasShape}
use Rattle.bats_model.specs.declared.packet.Packet.{Packet}
use Rattle.bats_format.proofs.RecordLemmas.{length-packet_record}
use Rattle.bats_cert.specs.CertificateFile.{Layout, field, fields, any, packets_bytes, rows_bytes, packet_field, packet_fields}
use Rattle.bats_cert.specs.steps.Parts.{GoesOn, HasRead, Stops, FieldStops}
use Rattle.bats_cert.specs.steps.Taken.{HasPacket, HasPackets, HasRows}
use Rattle.bats_cert.specs.declared.cert_end.CertEnd.{CertEnd}
use Rattle.bats_cert.specs.declared.cert_end.CertEnd.TheVariants as ends
use Rattle.bats_cert.proofs.Layouts.{packets-go, rows-go}
use Rattle.bats_cert.proofs.Stopping.{HasRead-nothing, HasRead-after, Stops-after, Stops-memory}

flat_map-push : {X : Type 0} (f : X → List ℕ) (xs : List X) (x : X) → flat_map f (xs ++ x ∷ []) ≡ flat_map f xs ++ f x
flat_map-push f [] x = append-nil (f x)
flat_map-push f (y ∷ xs) x = ap (λ (l : List ℕ). f y ++ l) (flat_map-push f xs x) ∙ sym (append_assoc (f y) (flat_map f xs) (f x))

times-more : (n size : ℕ) → (n + 1) * size ≡ n * size + size
times-more n size = omega arith

times-suc : (n size : ℕ) → suc n * size ≡ size + n * size
times-suc n size = omega arith

length-pieces : {X : Type 0} (f : X → List ℕ) (size : ℕ) (xs : List X) → All (λ x. length (f x) ≡ size) xs → length (flat_map f xs) ≡ length xs * size
length-pieces f size [] h = let none : 0 ≡ 0 * size = omega arith in none
length-pieces f size (x ∷ xs) h =
    length-append (f x) (flat_map f xs)
    ∙ (let one = h 0 x (omega arith) in
    let rest = length-pieces f size xs (λ i d within. h (suc i) d (omega (arith, within))) in
    let count = times-suc (length xs) size in
    omega (arith, one, rest, count))

-- one more piece of so many
pub room : (i count size : ℕ) → i < count → i * size + size ≤ count * size
room i count size h = let more = mul-le (i + 1) size count size (omega (arith, h)) (omega arith) in omega (arith, more, times-more i size)

-- ---- packets

pub length-packets_bytes : (session : SessionData) (packets : List Packet) → All (HasShape session) packets
    → length (packets_bytes packets) ≡ length packets * (5 + session.m + session.t)
length-packets_bytes session packets shapes =
    length-pieces (λ packet. packet_record packet.batch packet.coefs packet.payload) (5 + session.m + session.t) packets
    (λ i d within. length-packet_record session _ (shapes i d within))

pub HasPackets-none : (state : InputState) (session : SessionData) → HasPackets state state session 0 []
HasPackets-none state session = record {
  shapes = λ i d within. absurd (omega (arith, within));
  number = refl;
  part = HasRead-nothing state;
}

pub HasPackets-more : {before between after : InputState} (session : SessionData) (i : ℕ) (packets : List Packet) (packet : Packet)
    → HasPackets before between session i packets → HasPacket between after session packet → HasPackets before after session (i + 1) (packets ++ packet ∷ [])
HasPackets-more {before} {between} {after} session i packets packet p q = record {
  shapes = All-push (HasShape session) packets packet p.shapes q.shape;
  number = omega (arith, length_push packets packet, p.number);
  part = subst (HasRead before after) (sym (flat_map-push (λ packet. packet_record packet.batch packet.coefs packet.payload) packets packet))
      (HasRead-after (packets_bytes packets) (packet_record packet.batch packet.coefs packet.payload) p.part q.part);
}

-- the next packet's field
one_packet : (session : SessionData) (packets : List Packet) (more : ℕ) (next : Layout) → All (HasShape session) packets
    → GoesOn (packet_fields session (length packets + suc more) next) (packets_bytes packets) (packet_field session (packet_fields session more next))
unfolding fields
one_packet session packets more next shapes = packets-go session next packets (suc more) shapes

to_packet : (session : SessionData) (packets : List Packet) (i count : ℕ) (next : Layout) → All (HasShape session) packets → length packets ≡ i → i < count
    → GoesOn (packet_fields session count next) (packets_bytes packets) (packet_field session (packet_fields session (count - i - 1) next))
to_packet session packets i count next shapes number h =
    let same : length packets + suc (count - i - 1) ≡ count = omega (arith, number, h) in
    subst (λ (n : ℕ). GoesOn (packet_fields session n next) (packets_bytes packets) (packet_field session (packet_fields session (count - i - 1) next))) same
    (one_packet session packets (count - i - 1) next shapes)

-- behind the packets that were read, a packet isn't
pub Stops-packet : {before between after : InputState} {end : CertEnd} (session : SessionData) (packets : List Packet) (i count place : ℕ) (next : Layout)
    → HasPackets before between session i packets → i < count → place ≡ 38 + i * (5 + session.m + session.t)
    → ((after_it : Layout) → Stops (packet_field session after_it) between after place (5 + session.m + session.t) end)
    → Stops (packet_fields session count next) before after 38 (count * (5 + session.m + session.t)) end
Stops-packet session packets i count place next p h at s =
    let size = length-packets_bytes session packets p.shapes in
    let same : length packets * (5 + session.m + session.t) ≡ i * (5 + session.m + session.t) = ap (λ (n : ℕ). n * (5 + session.m + session.t)) p.number in
    let enough = room i count (5 + session.m + session.t) h in
    Stops-after (packets_bytes packets) (count * (5 + session.m + session.t)) (to_packet session packets i count next p.shapes p.number h) p.part
    (omega (arith, size, same, enough)) (omega (arith, size, same, at)) (s (packet_fields session (count - i - 1) next))

-- behind them and one more memory runs out
pub Stops-packet_memory : {before after : InputState} (session : SessionData) (packets : List Packet) (i count : ℕ) (next : Layout)
    → HasPackets before after session i packets → i ≤ count
    → Stops (packet_fields session count next) before after 38 (count * (5 + session.m + session.t)) ends.Memory
Stops-packet_memory session packets i count next p h =
    let size = length-packets_bytes session packets p.shapes in
    let same : length packets * (5 + session.m + session.t) ≡ i * (5 + session.m + session.t) = ap (λ (n : ℕ). n * (5 + session.m + session.t)) p.number in
    let enough = mul-le i (5 + session.m + session.t) count (5 + session.m + session.t) h (omega arith) in
    Stops-memory (packet_fields session count next) (packets_bytes packets) 38 (count * (5 + session.m + session.t)) p.part
    (omega (arith, size, same, enough))

-- ---- rows

pub rows_bytes-more : (rows : List (List ℕ)) (s : ℕ) (row : List ℕ) → s < length rows
    → rows_bytes (take (s + 1) (set rows s row)) ≡ rows_bytes (take s rows) ++ row
rows_bytes-more rows s row h =
    ap (λ (l : List (List ℕ)). rows_bytes l) (take_more_set rows s row h) ∙ flat_map-push (λ row. row) (take s rows) row

pub length-rows_bytes : (cols : ℕ) (rows : List (List ℕ)) → All (λ row. length row ≡ cols) rows → length (rows_bytes rows) ≡ length rows * cols
length-rows_bytes cols rows widths = length-pieces (λ row. row) cols rows widths

one_row : (next : Layout) (cols : ℕ) (rows : List (List ℕ)) (more : ℕ) → All (λ row. length row ≡ cols) rows
    → GoesOn (fields (length rows + suc more) cols any next) (rows_bytes rows) (field cols any (λ bytes. fields more cols any next))
unfolding fields
one_row next cols rows more widths = rows-go next cols rows (suc more) widths

to_row : (next : Layout) (cols : ℕ) (rows : List (List ℕ)) (s count : ℕ) → All (λ row. length row ≡ cols) rows → length rows ≡ s → s < count
    → GoesOn (fields count cols any next) (rows_bytes rows) (field cols any (λ bytes. fields (count - s - 1) cols any next))
to_row next cols rows s count widths number h =
    let same : length rows + suc (count - s - 1) ≡ count = omega (arith, number, h) in
    subst (λ (n : ℕ). GoesOn (fields n cols any next) (rows_bytes rows) (field cols any (λ bytes. fields (count - s - 1) cols any next))) same
    (one_row next cols rows (count - s - 1) widths)

stops_at : {before between after : InputState} {end : CertEnd} (m : Grid) (s at place : ℕ) (next : Layout) → IsMatrix m → s < length m.rows
    → HasRead before between (rows_bytes (take s m.rows)) → place ≡ at + s * m.cols → FieldStops between after place m.cols end
    → Stops (fields (length m.rows) m.cols any next) before after at (length m.rows * m.cols) end
stops_at m s at place next is h p same f =
    let widths = All-take (λ row. length row ≡ m.cols) s m.rows is.widths in
    let number : length (take s m.rows) ≡ s = omega (arith, length-take s m.rows, h) in
    let size = length-rows_bytes m.cols (take s m.rows) widths in
    let times : length (take s m.rows) * m.cols ≡ s * m.cols = ap (λ (n : ℕ). n * m.cols) number in
    let enough = room s (length m.rows) m.cols h in
    Stops-after (rows_bytes (take s m.rows)) (length m.rows * m.cols) (to_row next m.cols (take s m.rows) s (length m.rows) widths number h) p
    (omega (arith, size, times, enough)) (omega (arith, size, times, same)) (f.stops any (λ bytes. fields (length m.rows - s - 1) m.cols any next))

-- behind the rows that were read, a row isn't
pub Stops-row : {before between after : InputState} {end : CertEnd} (m : Grid) (s at place count cols size : ℕ) (next : Layout) → IsMatrix m → length m.rows ≡ count
    → m.cols ≡ cols → size ≡ cols → s < count → HasRead before between (rows_bytes (take s m.rows)) → place ≡ at + s * cols
    → FieldStops between after place size end → Stops (fields count cols any next) before after at (count * cols) end
Stops-row {before} {between} {after} {end} m s at place count cols size next is number width sized h p same f =
    let own : place ≡ at + s * m.cols = same ∙ ap (λ (n : ℕ). at + s * n) (sym width) in
    let field_stops = subst (λ (n : ℕ). FieldStops between after place n end) (sized ∙ sym width) f in
    let whole = stops_at m s at place next is (omega (arith, h, number)) p own field_stops in
    subst (λ (n : ℕ). Stops (fields count n any next) before after at (count * n) end) width
    (subst (λ (n : ℕ). Stops (fields n m.cols any next) before after at (n * m.cols) end) number whole)

-- one more row was read and written
pub rows-read : {before between after : InputState} (m new : Grid) (s : ℕ) (row : List ℕ) → new ≡ with_matrix_row m s row → s < length m.rows
    → HasRead before between (rows_bytes (take s m.rows)) → HasRead between after row → HasRead before after (rows_bytes (take (s + 1) new.rows))
rows-read {before} {between} {after} m new s row is h p q =
    let same : rows_bytes (take s m.rows) ++ row ≡ rows_bytes (take (s + 1) new.rows) =
    sym (rows_bytes-more m.rows s row h) ∙ ap (λ (other : Grid). rows_bytes (take (s + 1) other.rows)) (sym is) in
    subst (HasRead before after) same (HasRead-after (rows_bytes (take s m.rows)) row p q)

pub HasRows-all : {before after : InputState} (m : Grid) (s count cols : ℕ) → IsMatrix m → length m.rows ≡ count → m.cols ≡ cols → count ≤ s
    → HasRead before after (rows_bytes (take s m.rows)) → HasRows before after count cols m
HasRows-all {before} {after} m s count cols is number width h p = record {
  size = record { matrix = is; number = number; width = width };
  part = subst (λ (rows : List (List ℕ)). HasRead before after (rows_bytes rows)) (take_all s m.rows (omega (arith, h, number))) p;
}
