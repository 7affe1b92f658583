-- What `source` sends is a packet file, and the file agrees with all its packets.
use Rattle.std.proofs.Common.{ℕ, zero, suc, ◌≡◌, ◌+◌, ◌*◌, ◌^◌, ◌<◌, ◌≤◌, ◌∙◌, sym, ap, refl, subst, List, [], ◌∷◌, ◌++◌, length, map, arith}
use Rattle.std.specs.List.{All, flat_map, range_with_len}
use Rattle.std.proofs.lemmas.List.{length-append}
use Rattle.std.proofs.lemmas.List.Concat.{flat_map-append}
use Rattle.std.proofs.lemmas.List.Elements.{All-nil, All-cons, All-append, All-head, All-tail}
use Rattle.std.proofs.lemmas.List.FromFn.{length-map-range_with_len}
use Rattle.std.proofs.lemmas.Nat.{mul-le}
use Rattle.bats_model.specs.Bytes.{AreBytes}
use Rattle.bats_model.specs.Session.{SessionData, IsSession, symbols_of, max_symbols}
use Rattle.bats_model.specs.Batch.{batch_of}
use Rattle.bats_model.specs.Coded.{coded_payload, unit_vector}
use Rattle.bats_model.specs.Records.{header_record, packet_record}
use Rattle.bats_model.specs.PacketFile.{IsPacketFile, HasShape, AreItemsFrom, record_of, most_records, packets_of}
use Rattle.bats_model.specs.Agreement.{IsFile, Agrees, AgreesWithAll}
use Rattle.bats_model.specs.declared.packet.Packet.{Packet}
use Rattle.bats_model.specs.declared.item.Item.{Item}
use Rattle.bats_model.specs.declared.item.Item.TheVariants as items
use Rattle.bats_model.proofs.SystematicBatches.{number-batch_of}
use Rattle.bats_model.proofs.UnitVectors.{length-unit_vector, unit_vector-lt}
use Rattle.bats_model.proofs.SymbolValues.{coded_payload-lt}
use Rattle.bats_encoder.proofs.Agreements.{Agrees-coded, length-coded_payload}
use Rattle.bats_words.specs.declared.source_options.SourceOptions.{SourceOptions}
use Rattle.tool_run.specs.declared.status.Status.TheVariants as statuses
use Rattle.bats_words.specs.Options.{HasRanges, IsSeed}
use Rattle.tool_source.specs.FileSession.{session_for}
use Rattle.tool_source.specs.Source.{source_output, packet_records, batch_records, coded_record, source_ending, source_promise}
use Rattle.tool_run.specs.Ending.{Ending}
use Rattle.tool_source.proofs.Endings.{done_ending, source_ending-done}

-- ---- packets, one after another

-- the record of a packet
abbrev pub record_in : Packet → List ℕ
record_in packet = packet_record packet.batch packet.coefs packet.payload

-- the items of these packets, from an offset on
abbrev items_from : ℕ → List Packet → List Item
items_from offset [] = []
items_from offset (packet ∷ packets) = items.Packet offset packet ∷ items_from (offset + length (record_in packet)) packets

places_from : (session : SessionData) (offset : ℕ) (packets : List Packet) → All (HasShape session) packets
    → AreItemsFrom session offset (items_from offset packets)
unfolding AreItemsFrom record_of
places_from session offset [] h = tt
places_from session offset (packet ∷ packets) h = (
  (refl, All-head (HasShape session) packet packets h),
  places_from session (offset + length (record_in packet)) packets (All-tail (HasShape session) packet packets h),
)

records_from : (session : SessionData) (offset : ℕ) (packets : List Packet)
    → flat_map (record_of session) (items_from offset packets) ≡ flat_map record_in packets
unfolding record_of
records_from session offset [] = refl
records_from session offset (packet ∷ packets) =
    ap (λ (x : List ℕ). record_in packet ++ x) (records_from session (offset + length (record_in packet)) packets)

packets_from : (offset : ℕ) (packets : List Packet) → packets_of (items_from offset packets) ≡ packets
unfolding packets_of
packets_from offset [] = refl
packets_from offset (packet ∷ packets) =
    ap (λ (x : List Packet). packet ∷ x) (packets_from (offset + length (record_in packet)) packets)

count_from : (offset : ℕ) (packets : List Packet) → length (items_from offset packets) ≡ length packets
count_from offset [] = refl
count_from offset (packet ∷ packets) = omega (arith, count_from (offset + length (record_in packet)) packets)

-- a packet file of these bytes, whose packets are these
pub record IsFileOf (session : SessionData) (packets : List Packet) (bytes : List ℕ) : Type 0 where
  pub list : List Item
  pub file : IsPacketFile session list bytes
  pub of_packets : packets_of list ≡ packets

-- the header, and then the records of packets of the session
pub file_of : (session : SessionData) (packets : List Packet) → IsSession session → All (HasShape session) packets
    → length packets < most_records → IsFileOf session packets (header_record session ++ flat_map record_in packets)
unfolding AreItemsFrom record_of packets_of
file_of session packets h shapes few = record {
  list = items.Header 0 ∷ items_from (0 + length (header_record session)) packets;
  file = record {
    is_session = h;
    header = tt;
    places = (refl, places_from session (0 + length (header_record session)) packets shapes);
    few = omega (arith, count_from (0 + length (header_record session)) packets);
    records = ap (λ (x : List ℕ). header_record session ++ x) (sym (records_from session (0 + length (header_record session)) packets));
  };
  of_packets = packets_from (0 + length (header_record session)) packets;
}

-- ---- the packets that are sent

-- coded packet j of a batch
abbrev pub sent_packet : SessionData → List ℕ → ℕ → ℕ → Packet
sent_packet session file number j = record {
  batch = number;
  coefs = unit_vector session.m j;
  payload = coded_payload session file (batch_of session number) j;
}

-- the m coded packets of a batch, columns rising
abbrev pub batch_packets : SessionData → List ℕ → ℕ → List Packet
batch_packets session file number = map (sent_packet session file number) (range_with_len 0 session.m)

-- those of the batches asked for, batches rising
abbrev pub sent_packets : SessionData → List ℕ → ℕ → ℕ → List Packet
sent_packets session file first batches = flat_map (batch_packets session file) (range_with_len first batches)

flat_map-map : (g : Packet → List ℕ) (f : ℕ → Packet) (xs : List ℕ) → flat_map g (map f xs) ≡ flat_map (λ x. g (f x)) xs
flat_map-map g f [] = refl
flat_map-map g f (x ∷ xs) = ap (λ (z : List ℕ). g (f x) ++ z) (flat_map-map g f xs)

flat_map-twice : (g : Packet → List ℕ) (f : ℕ → List Packet) (h : ℕ → List ℕ) → ((x : ℕ) → flat_map g (f x) ≡ h x) → (xs : List ℕ)
    → flat_map g (flat_map f xs) ≡ flat_map h xs
flat_map-twice g f h e [] = refl
flat_map-twice g f h e (x ∷ xs) =
    flat_map-append g (f x) (flat_map f xs) ∙ ap (λ (z : List ℕ). z ++ flat_map g (flat_map f xs)) (e x)
    ∙ ap (λ (z : List ℕ). h x ++ z) (flat_map-twice g f h e xs)

records-sent : (session : SessionData) (file : List ℕ) (first batches : ℕ)
    → flat_map record_in (sent_packets session file first batches) ≡ packet_records session file first batches
unfolding packet_records batch_records coded_record
records-sent session file first batches =
    flat_map-twice record_in (batch_packets session file) (batch_records session file)
    (λ number. flat_map-map record_in (sent_packet session file number) (range_with_len 0 session.m))
    (range_with_len first batches)

count_each : (f : ℕ → List Packet) (m a n : ℕ) → ((k : ℕ) → length (f k) ≡ m) → length (flat_map f (range_with_len a n)) ≡ n * m
count_each f m a zero e = omega arith
count_each f m a (suc n) e =
    omega (arith, length-append (f a) (flat_map f (range_with_len (a + 1) n)), e a, count_each f m (a + 1) n e)

pub count-sent : (session : SessionData) (file : List ℕ) (first batches : ℕ)
    → length (sent_packets session file first batches) ≡ batches * session.m
count-sent session file first batches =
    count_each (batch_packets session file) session.m first batches
    (λ number. length-map-range_with_len (sent_packet session file number) 0 session.m)

All-batches : (P : Packet → Type 0) (f : ℕ → List Packet) (a n : ℕ) → ((k : ℕ) → a ≤ k → k < a + n → All P (f k))
    → All P (flat_map f (range_with_len a n))
All-batches P f a zero h = All-nil P
All-batches P f a (suc n) h =
    All-append P (f a) (flat_map f (range_with_len (a + 1) n)) (h a (omega arith) (omega arith))
    (All-batches P f (a + 1) n (λ k low high. h k (omega arith) (omega arith)))

All-columns : (P : Packet → Type 0) (f : ℕ → Packet) (a n : ℕ) → ((j : ℕ) → a ≤ j → j < a + n → P (f j))
    → All P (map f (range_with_len a n))
All-columns P f a zero h = All-nil P
All-columns P f a (suc n) h =
    All-cons P (f a) (map f (range_with_len (a + 1) n)) (h a (omega arith) (omega arith))
    (All-columns P f (a + 1) n (λ k low high. h k (omega arith) (omega arith)))

-- what holds of each coded packet of the batches holds of all that are sent
pub All-sent : (P : Packet → Type 0) (session : SessionData) (file : List ℕ) (first batches : ℕ)
    → ((number j : ℕ) → first ≤ number → number < first + batches → j < session.m → P (sent_packet session file number j))
    → All P (sent_packets session file first batches)
All-sent P session file first batches h =
    All-batches P (batch_packets session file) first batches
    (λ number low high. All-columns P (sent_packet session file number) 0 session.m (λ j _ l. h number j low high (omega arith)))

HasShape-sent : (session : SessionData) (file : List ℕ) (number j : ℕ) → number < 2 ^ 32 → AreBytes file
    → HasShape session (sent_packet session file number j)
HasShape-sent session file number j h bytes = record {
  batch = h;
  coefs = length-unit_vector session.m j;
  payload = length-coded_payload session file (batch_of session number) j;
  coef_bytes = unit_vector-lt session.m j;
  payload_bytes = coded_payload-lt session file number j bytes;
}

Agrees-sent : (session : SessionData) (file : List ℕ) (number j : ℕ) → IsFile session file → j < session.m
    → Agrees session file (sent_packet session file number j)
Agrees-sent session file number j f column =
    let number_is = number-batch_of session number in
    Agrees-coded session file (batch_of session number) j (sent_packet session file number j) f
    (ap (batch_of session) (sym number_is)) column (sym number_is) refl refl

pub AgreesWithAll-sent : (session : SessionData) (file : List ℕ) (first batches : ℕ) → IsFile session file
    → AgreesWithAll session (sent_packets session file first batches) file
AgreesWithAll-sent session file first batches f = record {
  is_file = f;
  each = All-sent (Agrees session file) session file first batches (λ number j low high column. Agrees-sent session file number j f column);
}

-- ---- the options of `source`

-- what `source` is asked for, and the file that it sends
pub record Sends (options : SourceOptions) (file : List ℕ) : Type 0 where
  pub ranges : HasRanges options
  pub seed : IsSeed options.seed
  pub bytes : AreBytes file
  pub symbols : symbols_of (session_for options (length file)) ≤ max_symbols

pub IsSession-for : (o : SourceOptions) (file : List ℕ) → Sends o file → IsSession (session_for o (length file))
IsSession-for o file h = record {
  m_low = h.ranges.m_low;
  m_high = h.ranges.m_high;
  t_low = h.ranges.t_low;
  t_high = h.ranges.t_high;
  table = h.ranges.table_high;
  symbols = h.symbols;
  seed = h.seed.size;
  seed_bytes = h.seed.bytes;
}

pub IsFile-for : (o : SourceOptions) (file : List ℕ) → AreBytes file → IsFile (session_for o (length file)) file
IsFile-for o file h = record { size = refl; bytes = h }

-- the packets that are sent
abbrev pub packets_for : SourceOptions → List ℕ → List Packet
packets_for o file = sent_packets (session_for o (length file)) file o.first o.batches

pub shapes_for : (o : SourceOptions) (file : List ℕ) → HasRanges o → AreBytes file → All (HasShape (session_for o (length file))) (packets_for o file)
shapes_for o file h bytes =
    All-sent (HasShape (session_for o (length file))) (session_for o (length file)) file o.first o.batches
    (λ number j low high column. HasShape-sent (session_for o (length file)) file number j (omega (arith, h.first_high, h.batches_high)) bytes)

few_for : (o : SourceOptions) (file : List ℕ) → HasRanges o → length (packets_for o file) < most_records
few_for o file h =
    omega (arith, count-sent (session_for o (length file)) file o.first o.batches, mul-le o.batches o.m 32767 32 h.batches_high h.m_high)

output_for : (o : SourceOptions) (file : List ℕ) → Sends o file
    → (source_ending o file).output ≡ header_record (session_for o (length file)) ++ flat_map record_in (packets_for o file)
unfolding source_output done_ending
output_for o file h =
    ap (λ (x : Ending). x.output) (source_ending-done o file h.symbols)
    ∙ ap (λ (x : List ℕ). header_record (session_for o (length file)) ++ x) (sym (records-sent (session_for o (length file)) file o.first o.batches))

pub status_for : (o : SourceOptions) (file : List ℕ) → symbols_of (session_for o (length file)) ≤ max_symbols
    → (source_ending o file).status ≡ statuses.Done
unfolding done_ending
status_for o file h = ap (λ (x : Ending). x.status) (source_ending-done o file h)

-- the output stands for these packets
pub file_for : (o : SourceOptions) (file : List ℕ) → Sends o file
    → IsFileOf (session_for o (length file)) (packets_for o file) (source_ending o file).output
file_for o file h =
    subst (IsFileOf (session_for o (length file)) (packets_for o file)) (sym (output_for o file h))
    (file_of (session_for o (length file)) (packets_for o file) (IsSession-for o file h) (shapes_for o file h.ranges h.bytes) (few_for o file h.ranges))

pub sends_a_packet_file : (o : SourceOptions) (file : List ℕ) → Sends o file
    → ((source_ending o file).status ≡ statuses.Done)
    × ((list : List Item)
    × (IsPacketFile (session_for o (length file)) list (source_ending o file).output
    × (length (packets_of list) ≡ o.batches * o.m)
    × AgreesWithAll (session_for o (length file)) (packets_of list) file))
sends_a_packet_file o file h =
    let session = session_for o (length file) in
    let sent = file_for o file h in
    let agrees = AgreesWithAll-sent session file o.first o.batches (IsFile-for o file h.bytes) in (
      status_for o file h.symbols,
      (
        sent.list,
        (
          sent.file,
          ap (λ (x : List Packet). length x) sent.of_packets ∙ count-sent session file o.first o.batches,
          subst (λ (x : List Packet). AgreesWithAll session x file) (sym sent.of_packets) agrees,
        ),
      ),
    )

-- so of each ending that is promised
pub sends_as_promised : (o : SourceOptions) (file : List ℕ) (ending : Ending) → Sends o file → (source_promise o).ends file ending
    → (ending.status ≡ statuses.Done)
    × ((list : List Item)
    × (IsPacketFile (session_for o (length file)) list ending.output
    × (length (packets_of list) ≡ o.batches * o.m)
    × AgreesWithAll (session_for o (length file)) (packets_of list) file))
sends_as_promised o file ending h is =
    subst (λ (x : Ending). (x.status ≡ statuses.Done)
    × ((list : List Item)
    × (IsPacketFile (session_for o (length file)) list x.output
    × (length (packets_of list) ≡ o.batches * o.m)
    × AgreesWithAll (session_for o (length file)) (packets_of list) file))) (sym is) (sends_a_packet_file o file h)
