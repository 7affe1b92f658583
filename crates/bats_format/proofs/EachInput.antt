-- Each input of bytes is a packet file or is refused. After a packet file at its front stands nothing, or one record
-- more, or what is refused; so the input is gone through record by record.
use Rattle.std.proofs.Common.{ℕ, zero, suc, ◌≡◌, ◌+◌, ◌^◌, ◌<◌, ◌≤◌, ◌∙◌, inl, inr, sym, ap, refl, subst, Bool, true, false, not, nat_le, ◌==◌, ◌&&◌, cond, List, [], ◌∷◌, ◌++◌, length, take, drop, get_or, append_assoc, append-nil, Option, Some, None, ◌⊎◌, arith}
use Rattle.std.specs.Int.{w32, to_be_bytes, from_be_bytes}
use Rattle.std.specs.Str.{bytes_eq}
use Rattle.std.proofs.Math.Seq.{take-append_seam}
use Rattle.std.proofs.lemmas.Bool.{cases_Bool, cases_eq, cases_lt}
use Rattle.std.proofs.lemmas.List.{length-append, length-take, length-drop, take-append-drop, get_or_past}
use Rattle.std.proofs.lemmas.Slice.Eq.{bytes_eq-Decides}
use Rattle.bats_model.specs.Bytes.{AreBytes}
use Rattle.bats_model.specs.Session.{SessionData, IsSession}
use Rattle.bats_model.specs.Records.{header_record, packet_record, header_tag, packet_tag}
use Rattle.bats_model.specs.PacketFile.{IsPacketFile, HasShape, IsItemAt, record_of, most_records}
use Rattle.bats_model.specs.Refusal.{HasFront, IsRefused, header_refusal, first_refusal, header_size}
use Rattle.bats_model.specs.declared.packet.Packet.{Packet}
use Rattle.bats_model.specs.declared.item.Item.{Item}
use Rattle.bats_model.specs.declared.item.Item.TheVariants as items
use Rattle.bats_model.specs.declared.read_end.ReadEnd.{ReadEnd}
use Rattle.bats_format.proofs.Numbers.{bytes-four}
use Rattle.bats_format.proofs.RecordLemmas.{length-header_record, length-packet_record, packet_record-begins, packet_rest, record_of-some}
use Rattle.bats_format.proofs.PacketFiles.{IsPacketFile-header, IsPacketFile-more, NextRecord}
use Rattle.bats_format.proofs.Refusals.{longest_front}
use Rattle.bats_format.proofs.Headers.{small-take, small-drop}
use Rattle.bats_format.proofs.BrokenFields.{AreSmall, AreSmall-rest, bytes-from_small, HasHeader, header-from_none, none-from_front}

AreSmall-AreBytes : (bytes : List ℕ) → AreBytes bytes → AreSmall bytes
AreSmall-AreBytes bytes h i = elim (cases_lt i (length bytes)) [
  | inl within ↦ h i 0 within
  | inr past ↦ subst (λ (n : ℕ). n < 256) (sym (get_or_past bytes i 0 past)) (omega arith)
]

option_cases : {X : Type 0} (o : Option X) → (o ≡ None) ⊎ ((x : X) × (o ≡ Some x))
option_cases None = inl refl
option_cases (Some x) = inr (x, refl)

-- ---- whether a record is next

-- a packet's record is at the front of what is left
record HasPacket (session : SessionData) (rest : List ℕ) : Type 0 where
  packet : Packet
  more : List ℕ
  shape : HasShape session packet
  split : rest ≡ packet_record packet.batch packet.coefs packet.payload ++ more

number-small : (bytes : List ℕ) → AreSmall bytes → from_be_bytes w32 bytes < 2 ^ 32
number-small bytes small = omega (arith, small 0, small 1, small 2, small 3)

-- the packet that stands in the bytes after its first one
packet_in : SessionData → List ℕ → Packet
packet_in session bytes = record {
  batch = from_be_bytes w32 (take 4 bytes);
  coefs = take session.m (drop 4 bytes);
  payload = take session.t (drop session.m (drop 4 bytes));
}

shape_in : (session : SessionData) (bytes : List ℕ) → 4 + session.m + session.t ≤ length bytes → AreSmall bytes
    → HasShape session (packet_in session bytes)
unfolding packet_in
shape_in session bytes long small = record {
  batch = number-small (take 4 bytes) (small-take 4 bytes small);
  coefs = omega (arith, length-take {A = ℕ}, length-drop {A = ℕ});
  payload = omega (arith, length-take {A = ℕ}, length-drop {A = ℕ});
  coef_bytes = bytes-from_small (take session.m (drop 4 bytes)) (small-take session.m (drop 4 bytes) (small-drop 4 bytes small));
  payload_bytes = bytes-from_small (take session.t (drop session.m (drop 4 bytes)))
      (small-take session.t (drop session.m (drop 4 bytes)) (small-drop session.m (drop 4 bytes) (small-drop 4 bytes small)));
}

packet_rest-in : (session : SessionData) (bytes : List ℕ) → 4 + session.m + session.t ≤ length bytes → AreSmall bytes
    → packet_rest (packet_in session bytes) ++ drop session.t (drop session.m (drop 4 bytes)) ≡ bytes
unfolding packet_in
packet_rest-in session bytes long small =
    let batch : to_be_bytes w32 (from_be_bytes w32 (take 4 bytes)) ≡ take 4 bytes = bytes-four (take 4 bytes) (omega (arith, length-take {A = ℕ})) (small-take 4 bytes small) in
    let rest : List ℕ = drop 4 bytes in
    let last : List ℕ = drop session.m rest in
    let more : List ℕ = drop session.t last in
    let coefs : List ℕ = take session.m rest in
    let payload : List ℕ = take session.t last in
    ap (λ (x : List ℕ). (x ++ (coefs ++ payload)) ++ more) batch
    ∙ append_assoc (take 4 bytes) (coefs ++ payload) more
    ∙ ap (λ (x : List ℕ). take 4 bytes ++ x) (append_assoc coefs payload more)
    ∙ ap (λ (x : List ℕ). take 4 bytes ++ (coefs ++ x)) (take-append-drop session.t last)
    ∙ ap (λ (x : List ℕ). take 4 bytes ++ x) (take-append-drop session.m rest)
    ∙ take-append-drop 4 bytes

has_packet : (session : SessionData) (bytes : List ℕ) → 4 + session.m + session.t ≤ length bytes → AreSmall bytes
    → HasPacket session (packet_tag ∷ bytes)
has_packet session bytes long small =
    let packet : Packet = packet_in session bytes in
    let more : List ℕ = drop session.t (drop session.m (drop 4 bytes)) in
    record {
      packet = packet;
      more = more;
      shape = shape_in session bytes long small;
      split = ap (λ (x : List ℕ). packet_tag ∷ x) (sym (packet_rest-in session bytes long small))
          ∙ ap (λ (x : List ℕ). x ++ more) (sym (packet_record-begins packet));
    }

packet-long : (session : SessionData) (rest : List ℕ) → HasPacket session rest → 5 + session.m + session.t ≤ length rest
packet-long session rest h =
    omega (arith, ap length h.split, length-append (packet_record h.packet.batch h.packet.coefs h.packet.payload) h.more, length-packet_record session h.packet h.shape)

packet-tag : (session : SessionData) (rest : List ℕ) → HasPacket session rest → get_or rest 0 0 ≡ packet_tag
packet-tag session rest h =
    ap (λ (x : List ℕ). get_or x 0 0) (h.split ∙ ap (λ (x : List ℕ). x ++ h.more) (packet_record-begins h.packet))

packet_case : (session : SessionData) (rest : List ℕ) → AreSmall rest → HasPacket session rest ⊎ (HasPacket session rest → ⊥)
packet_case session [] small = inr (λ h. let long = packet-long session [] h in omega arith)
packet_case session (tag ∷ bytes) small = elim (cases_lt (length (tag ∷ bytes)) (5 + session.m + session.t)) [
  | inl short ↦ inr (λ h. let long = packet-long session (tag ∷ bytes) h in omega arith)
  | inr long ↦
      elim (cases_eq tag packet_tag) [
        | inl same ↦
            inl (subst (λ (t : ℕ). HasPacket session (t ∷ bytes)) (sym same) (has_packet session bytes (omega arith) (λ i. small (suc i))))
        | inr other ↦ inr (λ h. other (packet-tag session (tag ∷ bytes) h))
      ]
]

-- the session's header record is at the front of what is left
header_case : (session : SessionData) (rest : List ℕ) → IsSession session
    → ((more : List ℕ) × (rest ≡ header_record session ++ more)) ⊎ ((more : List ℕ) → rest ≡ header_record session ++ more → ⊥)
header_case session rest h = elim (cases_Bool (bytes_eq (take 32 rest) (header_record session))) [
  | inl same ↦
      let front = (bytes_eq-Decides (take 32 rest) (header_record session)).0 same in
      inl (drop 32 rest, sym (take-append-drop 32 rest) ∙ ap (λ (x : List ℕ). x ++ drop 32 rest) front)
  | inr other ↦
      inr (λ more e.
      let front : take 32 rest ≡ header_record session =
      ap (take 32) e ∙ ap (λ (n : ℕ). take n (header_record session ++ more)) (sym (length-header_record session h)) ∙ take-append_seam (header_record session) more in
      let same = (bytes_eq-Decides (take 32 rest) (header_record session)).1 front in cc)
]

header_next : (session : SessionData) (list : List Item) (front rest more : List ℕ) → length list < most_records
    → rest ≡ header_record session ++ more → NextRecord session list front rest
unfolding record_of
header_next session list front rest more few e = record { item = items.Header (length front); more = more; place = refl; split = e; few = few }

packet_next : (session : SessionData) (list : List Item) (front rest : List ℕ) → length list < most_records
    → HasPacket session rest → NextRecord session list front rest
unfolding record_of
packet_next session list front rest few h = record {
  item = items.Packet (length front) h.packet;
  more = h.more;
  place = (refl, h.shape);
  split = h.split;
  few = few;
}

none_next : (session : SessionData) (offset : ℕ) (rest : List ℕ) (item : Item) (more : List ℕ) → IsItemAt session offset item
    → rest ≡ record_of session item ++ more → ((m : List ℕ) → rest ≡ header_record session ++ m → ⊥) → (HasPacket session rest → ⊥) → ⊥
unfolding record_of
none_next session offset rest (items.Header at) more place e header packet = header more e
none_next session offset rest (items.Packet at p) more place e header packet =
    packet (record { packet = p; more = more; shape = place.1; split = e })

next_case : (session : SessionData) (list : List Item) (front rest : List ℕ) → IsSession session → AreSmall rest
    → NextRecord session list front rest ⊎ (NextRecord session list front rest → ⊥)
next_case session list front rest h small = elim (cases_lt (length list) most_records) [
  | inr full ↦ inr (λ n. let few = n.few in omega arith)
  | inl few ↦
      elim (header_case session rest h) [
        | inl header ↦ inl (header_next session list front rest header.0 few header.1)
        | inr no_header ↦
            elim (packet_case session rest small) [
              | inl packet ↦ inl (packet_next session list front rest few packet)
              | inr no_packet ↦ inr (λ n. none_next session (length front) rest n.item n.more n.place n.split no_header no_packet)
            ]
      ]
]

-- ---- the whole input

some_end : (a b c : Bool) (w x y z : ReadEnd) → (end : ReadEnd) × (cond a (Some w) (cond b (Some x) (cond c (Some y) (Some z))) ≡ Some end)
some_end true b c w x y z = (w, refl)
some_end false true c w x y z = (x, refl)
some_end false false true w x y z = (y, refl)
some_end false false false w x y z = (z, refl)

-- where something is left, it is refused for some cause
some_refusal : (offset records tag : ℕ) (bytes : List ℕ) → (end : ReadEnd) × (first_refusal offset records (tag ∷ bytes) ≡ Some end)
unfolding first_refusal
some_refusal offset records tag bytes =
    some_end (records == most_records) (not (tag == header_tag) && not (tag == packet_tag))
    ((tag == header_tag) && nat_le header_size (length (tag ∷ bytes))) _ _ _ _

abbrev FileOrRefused : List ℕ → Type 0
FileOrRefused input =
    ((session : SessionData) × (list : List Item) × IsPacketFile session list input) ⊎ ((end : ReadEnd) × IsRefused input end)

whole_file : (input : List ℕ) (session : SessionData) (list : List Item) (front : List ℕ) → HasFront input session list front [] → FileOrRefused input
whole_file input session list front h =
    inl (session, list, subst (λ (x : List ℕ). IsPacketFile session list x) (sym (h.split ∙ append-nil front)) h.file)

refused_record : (input : List ℕ) (session : SessionData) (list : List Item) (front : List ℕ) (tag : ℕ) (bytes : List ℕ)
    → HasFront input session list front (tag ∷ bytes) → (NextRecord session list front (tag ∷ bytes) → ⊥) → FileOrRefused input
refused_record input session list front tag bytes h none =
    let refusal = some_refusal (length front) (length list) tag bytes in
    inr (
      refusal.0,
      inr (
        session,
        list,
        record {
          front = front;
          rest = tag ∷ bytes;
          longest = longest_front input session list front (tag ∷ bytes) h none;
          refusal = refusal.1;
        },
      ),
    )

longer : (input : List ℕ) (session : SessionData) (list : List Item) (front rest : List ℕ) → HasFront input session list front rest
    → (n : NextRecord session list front rest)
    → HasFront input session (list ++ n.item ∷ []) (front ++ record_of session n.item) n.more
longer input session list front rest h n = record {
  file = IsPacketFile-more session list front n.item h.file n.place n.few;
  split = h.split ∙ ap (λ (x : List ℕ). front ++ x) n.split ∙ sym (append_assoc front (record_of session n.item) n.more);
}

next-less : (session : SessionData) (list : List Item) (front rest : List ℕ) (n : NextRecord session list front rest) → length n.more < length rest
next-less session list front rest n =
    omega (arith, ap length n.split, length-append (record_of session n.item) n.more, record_of-some session n.item)

-- by how many bytes are left
go_through : (bound : ℕ) (input : List ℕ) (session : SessionData) (list : List Item) (front rest : List ℕ)
    → HasFront input session list front rest → AreSmall rest → length rest ≤ bound → FileOrRefused input
go_through bound input session list front [] h small within = whole_file input session list front h
go_through zero input session list front (tag ∷ bytes) h small within = absurd (omega arith)
go_through (suc bound) input session list front (tag ∷ bytes) h small within =
    elim (next_case session list front (tag ∷ bytes) h.file.is_session small) [
      | inl n ↦
          go_through bound input session (list ++ n.item ∷ []) (front ++ record_of session n.item) n.more
          (longer input session list front (tag ∷ bytes) h n)
          (AreSmall-rest (record_of session n.item) n.more (subst AreSmall n.split small))
          (let less = next-less session list front (tag ∷ bytes) n in omega arith)
      | inr none ↦ refused_record input session list front tag bytes h none
    ]

refused_header : (input : List ℕ) (end : ReadEnd) → header_refusal input ≡ Some end → IsRefused input end
refused_header input end e = inl (record {
  none = λ session list front rest h. let none = none-from_front input session list front rest h in cc;
  refusal = e;
})

after_header : (input : List ℕ) → AreSmall input → HasHeader input → FileOrRefused input
after_header input small h =
    let begins = h.begins in
    go_through (length begins.more) input h.session (items.Header 0 ∷ []) (header_record h.session) begins.more
    (record { file = IsPacketFile-header h.session begins.is_session; split = begins.split })
    (AreSmall-rest (header_record h.session) begins.more (subst AreSmall begins.split small)) (omega arith)

-- each input is a packet file or is refused
pub file_or_refused : (input : List ℕ) → AreBytes input
    → ((session : SessionData) × (list : List Item) × IsPacketFile session list input) ⊎ ((end : ReadEnd) × IsRefused input end)
file_or_refused input h =
    let small = AreSmall-AreBytes input h in
    elim (option_cases (header_refusal input)) [
      | inl none ↦ after_header input small (header-from_none input small none)
      | inr some ↦ inr (some.0, refused_header input some.0 some.1)
    ]
