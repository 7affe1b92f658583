-- Records that are read, and why one isn't.
use Rattle.std.specs.Prelude.{option_map, ◌==◌, ◌&&◌, not, nat_le, nat_lt}
use Rattle.std.proofs.Common.{◌≡◌, ◌≢◌, ℕ, ◌+◌, ◌<◌, ◌≤◌, Bool, true, false, cond, suc, ◌^◌, List, [], ◌∷◌, ◌++◌, length, take, drop, get_or, append_assoc, append-nil, Option, None, Some, Result, Ok, Err, refl, sym, ap, subst, ◌∙◌, arith, length-append}
use Rattle.std.specs.Int.{w32, to_be_bytes}
use Rattle.std.proofs.lemmas.List.{take_all}
use Rattle.std.proofs.lemmas.Slice.Eq.{bytes_eq-Decides}
use Rattle.std.specs.Str.{bytes_eq}
use Rattle.std.proofs.Math.Seq.{take-append_seam}
use Rattle.std.proofs.lemmas.Bool.Decides.{nat_tests}
use Rattle.std.proofs.lemmas.Result.{err_from_is_err_and}
use Rattle.std.specs.Result.{IsErrAnd}
use Rattle.bats_io.specs.Faults.{Rose}
use Rattle.bats_io.specs.Streams.{InputState, IsRead}
use Rattle.bats_io.proofs.ReadLemmas.{IsRead-nothing, IsRead-after, IsTold-after}
use Rattle.bats_model.specs.Bytes.{AreBytes}
use Rattle.bats_model.specs.Session.{SessionData, IsSession}
use Rattle.bats_model.specs.Records.{header_record, packet_record, header_tag, packet_tag}
use Rattle.bats_model.specs.PacketFile.{IsItemAt, record_of, most_records}
use Rattle.bats_model.specs.Refusal.{RefusesHeader, HasFront, first_broken, header_refusal, header_size, first_refusal}
use Rattle.bats_model.specs.declared.packet.Packet.{Packet}
use Rattle.bats_model.specs.declared.item.Item.{Item}
use Rattle.bats_model.specs.declared.item.Item.TheVariants as items
use Rattle.bats_model.specs.declared.read_end.HeaderField.{HeaderField}
use Rattle.bats_model.specs.declared.read_end.ReadEnd.{ReadEnd}
use Rattle.bats_model.specs.declared.read_end.ReadEnd.TheVariants as ends
use Rattle.bats_format.specs.Filling.{IsFilled, FailsWithin, IsPart, PartIsFilled, FillsPart}
use Rattle.bats_format.specs.Taking.{HasNoRecord, room_of, size_read, StopsFirst, FirstStops, TakesFirst, ReadsWithin, FailsAt, IsStop, StopsAt, StopCause, Stops, TakesByte, TakesItem, TakesBody, LacksMemoryAt, TakesRecord}
use Rattle.bats_format.proofs.RecordLemmas.{same_parts, length-header_record, header_rest, header_record-begins, length-packet_record, packet_rest, packet_record-begins}
use Rattle.bats_format.proofs.PacketFiles.{IsPacketFile-header}
use Rattle.bats_format.proofs.Refusals.{front_begins}
use Rattle.bats_format.proofs.Filled.{left_of, left_of-ended, IsTold-of}

-- ---- causes

-- want of memory and failed reads are no cause that an input gives
abbrev IsOfInput : ReadEnd → Type 0
IsOfInput ends.Memory = ⊥
IsOfInput ends.ReadFault = ⊥
IsOfInput ends.NoHeader = Unit {0}
IsOfInput (ends.BadHeader field) = Unit {0}
IsOfInput (ends.BadTag at byte) = Unit {0}
IsOfInput (ends.OtherSession at) = Unit {0}
IsOfInput (ends.Truncated at) = Unit {0}
IsOfInput ends.TooManyRecords = Unit {0}

abbrev AreOfInput : Option ReadEnd → Type 0
AreOfInput None = Unit {0}
AreOfInput (Some end) = IsOfInput end

later_choices : (full unknown other : Bool) (offset tag : ℕ)
    → AreOfInput (cond full (Some ends.TooManyRecords) (cond unknown (Some (ends.BadTag offset tag)) (cond other (Some (ends.OtherSession offset)) (Some (ends.Truncated offset)))))
later_choices true unknown other offset tag = tt
later_choices false true other offset tag = tt
later_choices false false true offset tag = tt
later_choices false false false offset tag = tt

later_of_input : (offset records : ℕ) (bytes : List ℕ) → AreOfInput (first_refusal offset records bytes)
unfolding first_refusal
later_of_input offset records [] = tt
later_of_input offset records (tag ∷ bytes) =
    later_choices (records == most_records) (not (tag == header_tag) && not (tag == packet_tag))
    ((tag == header_tag) && nat_le header_size (length (tag ∷ bytes))) offset tag

of_input : (offset records : ℕ) (bytes : List ℕ) (end : ReadEnd) → first_refusal offset records bytes ≡ Some end → IsOfInput end
of_input offset records bytes end e = subst AreOfInput e (later_of_input offset records bytes)

header_choices : (other cut : Bool) (broken : Option HeaderField)
    → AreOfInput (cond other (Some ends.NoHeader) (cond cut (Some (ends.Truncated 0)) (option_map (λ field. ends.BadHeader field) broken)))
header_choices true cut broken = tt
header_choices false true broken = tt
header_choices false false None = tt
header_choices false false (Some field) = tt

header_of_input : (bytes : List ℕ) → AreOfInput (header_refusal bytes)
unfolding header_refusal
header_of_input [] = tt
header_of_input (tag ∷ bytes) =
    header_choices (not (tag == header_tag)) (nat_lt (length (tag ∷ bytes)) header_size) (first_broken (take header_size (tag ∷ bytes)))

-- ---- the cause of what is at a place

refusal-full : (offset tag : ℕ) (bytes : List ℕ) → first_refusal offset most_records (tag ∷ bytes) ≡ Some ends.TooManyRecords
unfolding first_refusal
refusal-full offset tag bytes = refl

refusal-tag : (offset records tag : ℕ) (bytes : List ℕ) → records ≢ most_records → tag ≢ header_tag → tag ≢ packet_tag
    → first_refusal offset records (tag ∷ bytes) ≡ Some (ends.BadTag offset tag)
unfolding first_refusal
refusal-tag offset records tag bytes more h k = grind (arith, nat_tests)

refusal-other : (offset records : ℕ) (bytes : List ℕ) → records ≢ most_records → 31 ≤ length bytes
    → first_refusal offset records (header_tag ∷ bytes) ≡ Some (ends.OtherSession offset)
unfolding first_refusal
refusal-other offset records bytes more h = grind (arith, nat_tests)

refusal-header_cut : (offset records : ℕ) (bytes : List ℕ) → records ≢ most_records → length bytes < 31
    → first_refusal offset records (header_tag ∷ bytes) ≡ Some (ends.Truncated offset)
unfolding first_refusal
refusal-header_cut offset records bytes more h = grind (arith, nat_tests)

refusal-packet_cut : (offset records : ℕ) (bytes : List ℕ) → records ≢ most_records
    → first_refusal offset records (packet_tag ∷ bytes) ≡ Some (ends.Truncated offset)
unfolding first_refusal
refusal-packet_cut offset records bytes more = grind (arith, nat_tests)

-- ---- no record at a place

-- a record begins with one of the two tags
no_tag : (session : SessionData) (item : Item) (tag : ℕ) (bytes more : List ℕ) → tag ≢ header_tag → tag ≢ packet_tag
    → tag ∷ bytes ≡ record_of session item ++ more → ⊥
unfolding record_of
no_tag session (items.Header at) tag bytes more h k e =
    h (cc (e ∙ ap (λ (front : List ℕ). front ++ more) (header_record-begins session)))
no_tag session (items.Packet at packet) tag bytes more h k e =
    k (cc (e ∙ ap (λ (front : List ℕ). front ++ more) (packet_record-begins packet)))

-- a header that is cut
no_header_cut : (session : SessionData) (offset : ℕ) (item : Item) (bytes more : List ℕ) → length (header_record session) ≡ 32
    → length bytes < 31 → header_tag ∷ bytes ≡ record_of session item ++ more → ⊥
unfolding record_of
no_header_cut session offset (items.Header at) bytes more size h e =
    absurd (omega (arith, ap length e, length-append (header_record session) more))
no_header_cut session offset (items.Packet at packet) bytes more size h e =
    let other : header_tag ∷ bytes ≡ packet_tag ∷ (packet_rest packet ++ more) = e ∙ ap (λ (front : List ℕ). front ++ more) (packet_record-begins packet) in
    let tags : header_tag ≡ packet_tag = ap (λ (list : List ℕ). get_or list 0 0) other in omega arith

-- a whole header of another session
no_other_header : (session : SessionData) (item : Item) (rest after more : List ℕ) → length (header_record session) ≡ 32 → length rest ≡ 31
    → (rest ≡ header_rest session → ⊥) → header_tag ∷ (rest ++ after) ≡ record_of session item ++ more → ⊥
unfolding record_of
no_other_header session (items.Header at) rest after more size h differs e =
    let same : header_tag ∷ (rest ++ after) ≡ header_tag ∷ (header_rest session ++ more) = e ∙ ap (λ (front : List ℕ). front ++ more) (header_record-begins session) in
    let length_is : length rest ≡ length (header_rest session) = omega (arith, ap length (header_record-begins session)) in
    differs (same_parts rest (header_rest session) after more length_is (cc)).front
no_other_header session (items.Packet at packet) rest after more size h differs e =
    let other : header_tag ∷ (rest ++ after) ≡ packet_tag ∷ (packet_rest packet ++ more) = e ∙ ap (λ (front : List ℕ). front ++ more) (packet_record-begins packet) in
    let tags : header_tag ≡ packet_tag = ap (λ (list : List ℕ). get_or list 0 0) other in omega arith

-- a packet that is cut
no_packet_cut : (session : SessionData) (offset : ℕ) (item : Item) (bytes more : List ℕ) → length bytes < 4 + session.m + session.t
    → IsItemAt session offset item → packet_tag ∷ bytes ≡ record_of session item ++ more → ⊥
unfolding record_of
no_packet_cut session offset (items.Header at) bytes more h place e =
    let other : packet_tag ∷ bytes ≡ header_tag ∷ (header_rest session ++ more) = e ∙ ap (λ (front : List ℕ). front ++ more) (header_record-begins session) in
    let tags : packet_tag ≡ header_tag = ap (λ (list : List ℕ). get_or list 0 0) other in omega arith
no_packet_cut session offset (items.Packet at packet) bytes more h place e =
    absurd (omega (arith, ap length e, length-packet_record session packet place.1, length-append (packet_record packet.batch packet.coefs packet.payload) more))

-- fewer bytes than each record has
no_short : (session : SessionData) (item : Item) (bytes more : List ℕ) → length bytes < 5 → bytes ≡ record_of session item ++ more → ⊥
unfolding record_of header_record packet_record
no_short session (items.Header at) bytes more h e =
    absurd (omega (arith, ap length e, length-append (header_record session) more))
no_short session (items.Packet at packet) bytes more h e =
    absurd (omega (arith, ap length e, length-append (packet_record packet.batch packet.coefs packet.payload) more))

-- ---- how far a record goes

room_of-some : (session : Option SessionData) (records tag : ℕ) (bytes : List ℕ) → 1 ≤ room_of session records (tag ∷ bytes)
room_of-some None records tag bytes = grind (arith, nat_tests)
room_of-some (Some session) records tag bytes = grind (arith, nat_tests)

-- one byte at most
within-one : (session : Option SessionData) (records : ℕ) (bytes : List ℕ) → length bytes < 2 → length bytes ≤ room_of session records bytes
within-one session records [] h = omega arith
within-one session records (tag ∷ bytes) h = omega (arith, room_of-some session records tag bytes)

within-first : (bytes : List ℕ) → length bytes < 32 → length (header_tag ∷ bytes) ≤ room_of None 0 (header_tag ∷ bytes)
within-first bytes h = let r : suc (length bytes) ≤ 32 = omega arith in r

within-header : (session : SessionData) (records : ℕ) (bytes : List ℕ) → records ≢ most_records → length bytes < 32
    → length (header_tag ∷ bytes) ≤ room_of (Some session) records (header_tag ∷ bytes)
within-header session records bytes more h = grind (arith, nat_tests)

within-packet : (session : SessionData) (records : ℕ) (bytes : List ℕ) → records ≢ most_records → length bytes < 5 + session.m + session.t
    → length (packet_tag ∷ bytes) ≤ room_of (Some session) records (packet_tag ∷ bytes)
within-packet session records bytes more h = grind (arith, nat_tests)

-- ---- stops

pub IsStop-full : (session : SessionData) (offset tag : ℕ) (bytes : List ℕ) → IsStop session most_records offset (tag ∷ bytes) ends.TooManyRecords
IsStop-full session offset tag bytes = record {
  none = λ item more place e few. omega (arith, few);
  refusal = refusal-full offset tag bytes;
}

pub IsStop-tag : (session : SessionData) (records offset tag : ℕ) (bytes : List ℕ) → records ≢ most_records → tag ≢ header_tag → tag ≢ packet_tag
    → IsStop session records offset (tag ∷ bytes) (ends.BadTag offset tag)
IsStop-tag session records offset tag bytes more h k = record {
  none = λ item after place e few. no_tag session item tag bytes after h k e;
  refusal = refusal-tag offset records tag bytes more h k;
}

-- what stops for a cause that the input gives
stop_of : (before after : InputState) (session : SessionData) (records offset : ℕ) (begun : List ℕ) (end : ReadEnd) → IsOfInput end
    → StopsAt before after session records offset begun end → StopCause before after session records offset begun end
stop_of before after session records offset begun ends.Memory h p = absurd h
stop_of before after session records offset begun ends.ReadFault h p = absurd h
stop_of before after session records offset begun ends.NoHeader h p = p
stop_of before after session records offset begun (ends.BadHeader field) h p = p
stop_of before after session records offset begun (ends.BadTag at byte) h p = p
stop_of before after session records offset begun (ends.OtherSession at) h p = p
stop_of before after session records offset begun (ends.Truncated at) h p = p
stop_of before after session records offset begun ends.TooManyRecords h p = p

pub Stops-at : {before after : InputState} {session : SessionData} {records offset : ℕ} {begun : List ℕ} {end : ReadEnd}
    → StopsAt before after session records offset begun end → Stops before after session records offset begun end
Stops-at {before} {after} {session} {records} {offset} {begun} {end} p = record {
  cause = stop_of before after session records offset begun end (of_input offset records (begun ++ p.left) end p.stop.refusal) p;
}

-- a stop after bytes that were read
reads_after : (before between after : InputState) (session : Option SessionData) (records offset : ℕ) (bytes : List ℕ) → IsPart before between bytes
    → ReadsWithin session records offset between.left after.left bytes → ReadsWithin session records offset before.left after.left []
reads_after before between after session records offset bytes p r = record {
  bytes = bytes ++ r.bytes;
  read = IsRead-after before.left between.left after.left bytes r.bytes p.read r.read;
  within = r.within;
  none = r.none;
}

fails_after : (before between after : InputState) (session : Option SessionData) (records offset : ℕ) (bytes : List ℕ) → IsPart before between bytes
    → FailsAt between after session records offset bytes → FailsAt before after session records offset []
fails_after before between after session records offset bytes p f = record {
  fault = subst (λ (n : ℕ). Rose n after.faults) p.no_fault f.fault;
  read = reads_after before between after session records offset bytes p f.read;
}

lacks_memory_after : (before between after : InputState) (session : SessionData) (records offset : ℕ) (bytes : List ℕ) → IsPart before between bytes
    → LacksMemoryAt between after session records offset bytes → LacksMemoryAt before after session records offset []
lacks_memory_after before between after session records offset bytes p s = record {
  no_fault = s.no_fault ∙ p.no_fault;
  read = reads_after before between after (Some session) records offset bytes p s.read;
}

stops_after : (before between after : InputState) (session : SessionData) (records offset : ℕ) (bytes : List ℕ) (end : ReadEnd)
    → IsPart before between bytes → StopsAt between after session records offset bytes end → StopsAt before after session records offset [] end
unfolding reads_after
stops_after before between after session records offset bytes end p s = record {
  left = bytes ++ s.left;
  told = IsTold-after before.left between.left bytes s.left p.read s.told;
  stop = s.stop;
  read = reads_after before between after (Some session) records offset bytes p s.read;
  size = s.size;
  no_fault = s.no_fault ∙ p.no_fault;
}

stop_after : (before between after : InputState) (session : SessionData) (records offset : ℕ) (bytes : List ℕ) (end : ReadEnd)
    → IsPart before between bytes → StopCause between after session records offset bytes end → StopCause before after session records offset [] end
stop_after before between after session records offset bytes ends.Memory p s = lacks_memory_after before between after session records offset bytes p s
stop_after before between after session records offset bytes ends.ReadFault p s = fails_after before between after (Some session) records offset bytes p s
stop_after before between after session records offset bytes ends.NoHeader p s = stops_after before between after session records offset bytes _ p s
stop_after before between after session records offset bytes (ends.BadHeader field) p s = stops_after before between after session records offset bytes _ p s
stop_after before between after session records offset bytes (ends.BadTag at byte) p s = stops_after before between after session records offset bytes _ p s
stop_after before between after session records offset bytes (ends.OtherSession at) p s = stops_after before between after session records offset bytes _ p s
stop_after before between after session records offset bytes (ends.Truncated at) p s = stops_after before between after session records offset bytes _ p s
stop_after before between after session records offset bytes ends.TooManyRecords p s = stops_after before between after session records offset bytes _ p s

-- a stop after the first byte
pub Stops-after : {before between after : InputState} {session : SessionData} {records offset byte : ℕ} {end : ReadEnd}
    → TakesByte before between records byte → Stops between after session records offset (byte ∷ []) end → Stops before after session records offset [] end
Stops-after {before} {between} {after} {session} {records} {offset} {byte} {end} p s = record {
  cause = stop_after before between after session records offset (byte ∷ []) end (record { read = p.taken; no_fault = p.no_fault }) s.cause;
}

-- ---- the first byte

first_byte : (buffer : List ℕ) (count : ℕ) → length buffer ≡ 1 → count ≤ 1 → count ≢ 0 → take count buffer ≡ get_or buffer 0 0 ∷ []
first_byte [] count size h some = absurd (omega arith)
first_byte (byte ∷ []) count size h some = let e : count ≡ 1 = omega arith in ap (λ (n : ℕ). take n (byte ∷ [])) e
first_byte (byte ∷ other ∷ more) count size h some = absurd (omega arith)

read_byte : (before after : InputState) (buffer : List ℕ) (count : ℕ) → length buffer ≡ 1 → count ≢ 0 → IsFilled before after buffer count
    → IsRead before.left after.left (get_or buffer 0 0 ∷ [])
read_byte before after buffer count size some f =
    subst (λ (bytes : List ℕ). IsRead before.left after.left bytes) (first_byte buffer count size (omega (arith, f.within)) some) f.read

-- the first byte of a record could not be read
pub Stops-untagged : {before after : InputState} {records offset : ℕ} (size : ℕ) → size ≡ 1 → FailsWithin before after size
    → (session : SessionData) → Stops before after session records offset [] ends.ReadFault
Stops-untagged {before} {after} {records} {offset} size one f session = record {
  cause = record {
    fault = f.fault;
    read = record {
      bytes = f.read.bytes;
      read = f.read.read;
      within = within-one (Some session) records f.read.bytes (omega (arith, f.read.within));
      none = λ item more place e. no_short session item f.read.bytes more (omega (arith, f.read.within)) e;
    };
  };
}

pub Stops-tag : {before after : InputState} {records offset : ℕ} {end : ReadEnd} (buffer : List ℕ) (count : ℕ) → length buffer ≡ 1 → count ≢ 0
    → IsFilled before after buffer count
    → ((session : SessionData) (rest : List ℕ)
    → IsStop session records offset (get_or buffer 0 0 ∷ rest) end × (size_read end (get_or buffer 0 0 ∷ rest) ≡ 1))
    → (session : SessionData) → Stops before after session records offset [] end
Stops-tag {before} {after} {records} {offset} {end} buffer count size some f stop session =
    Stops-at (record {
      left = get_or buffer 0 0 ∷ left_of after.left;
      told = IsTold-of before.left after.left (get_or buffer 0 0 ∷ []) (read_byte before after buffer count size some f);
      stop = (stop session (left_of after.left)).0;
      read = record {
        bytes = get_or buffer 0 0 ∷ [];
        read = read_byte before after buffer count size some f;
        within = within-one (Some session) records (get_or buffer 0 0 ∷ []) (omega arith);
        none = λ item more place e. no_short session item (get_or buffer 0 0 ∷ []) more (omega arith) e;
      };
      size = sym (stop session (left_of after.left)).1;
      no_fault = f.no_fault;
    })

-- ---- the size of a record

pub length-record_of : (session : SessionData) (offset : ℕ) (item : Item) → IsSession session → IsItemAt session offset item
    → (size : ℕ) → ((at : ℕ) → item ≡ items.Header at → size ≡ 32)
    → ((at : ℕ) (packet : Packet) → item ≡ items.Packet at packet → size ≡ 5 + session.m + session.t)
    → size ≡ length (record_of session item)
unfolding record_of
length-record_of session offset (items.Header at) h place size header packet_size =
    header at refl ∙ sym (length-header_record session h)
length-record_of session offset (items.Packet at packet) h place size header packet_size =
    packet_size at packet refl ∙ sym (length-packet_record session packet place.1)

-- ---- the first header

header_at : (input : List ℕ) (session : SessionData) (list : List Item) (front rest : List ℕ) → HasFront input session list front rest
    → (more : List ℕ) × (input ≡ header_tag ∷ (header_rest session ++ more))
header_at input session list front rest h =
    let b = front_begins input session list front rest h in
    (b.more, b.split ∙ ap (λ (bytes : List ℕ). bytes ++ b.more) (header_record-begins session))

no_header : (bytes : List ℕ) (input : List ℕ) → (0 < length input → get_or input 0 0 ≢ header_tag) → input ≡ header_tag ∷ bytes → ⊥
no_header bytes input h e =
    let first : get_or input 0 0 ≡ header_tag = ap (λ (list : List ℕ). get_or list 0 0) e in
    h (omega (arith, ap length e)) first

refusal-no_header : (tag : ℕ) (bytes : List ℕ) → tag ≢ header_tag → header_refusal (tag ∷ bytes) ≡ Some ends.NoHeader
unfolding header_refusal
refusal-no_header tag bytes h = grind (arith, nat_tests)

none_refusal : (input : List ℕ) → (0 < length input → get_or input 0 0 ≢ header_tag) → header_refusal input ≡ Some ends.NoHeader
unfolding header_refusal
none_refusal [] h = refl
none_refusal (tag ∷ bytes) h = refusal-no_header tag bytes (h (omega arith))

RefusesHeader-none : (input : List ℕ) → (0 < length input → get_or input 0 0 ≢ header_tag) → RefusesHeader input ends.NoHeader
RefusesHeader-none input h = record {
  none = λ session list front rest k. let b = header_at input session list front rest k in no_header _ input h b.1;
  refusal = none_refusal input h;
}

refusal-first_cut : (tag : ℕ) (bytes : List ℕ) → tag ≡ header_tag → length (tag ∷ bytes) < header_size
    → header_refusal (tag ∷ bytes) ≡ Some (ends.Truncated 0)
unfolding header_refusal
refusal-first_cut tag bytes h short = grind (arith, nat_tests)

cut_refusal : (input : List ℕ) → 0 < length input → get_or input 0 0 ≡ header_tag → length input < header_size
    → header_refusal input ≡ Some (ends.Truncated 0)
cut_refusal [] some h short = absurd (omega arith)
cut_refusal (tag ∷ bytes) some h short = refusal-first_cut tag bytes h short

RefusesHeader-cut : (input : List ℕ) → 0 < length input → get_or input 0 0 ≡ header_tag → length input < header_size
    → RefusesHeader input (ends.Truncated 0)
RefusesHeader-cut input some h short = record {
  none = λ session list front rest k.
      let b = front_begins input session list front rest k in
      absurd (omega (arith, ap length b.split, length-append (header_record session) b.more, length-header_record session b.is_session));
  refusal = cut_refusal input some h short;
}

refusal-first_broken : (tag : ℕ) (bytes : List ℕ) → tag ≡ header_tag → header_size ≤ length (tag ∷ bytes)
    → header_refusal (tag ∷ bytes) ≡ option_map (λ field. ends.BadHeader field) (first_broken (take header_size (tag ∷ bytes)))
unfolding header_refusal
refusal-first_broken tag bytes h size = grind (arith, nat_tests)

broken_refusal : (input : List ℕ) (field : HeaderField) → header_size ≤ length input → get_or input 0 0 ≡ header_tag
    → first_broken (take header_size input) ≡ Some field → header_refusal input ≡ Some (ends.BadHeader field)
broken_refusal [] field size h broken = absurd (omega arith)
broken_refusal (tag ∷ bytes) field size h broken =
    refusal-first_broken tag bytes h size ∙ ap (option_map (λ field. ends.BadHeader field)) broken

RefusesHeader-broken : (input : List ℕ) (field : HeaderField) → header_size ≤ length input → get_or input 0 0 ≡ header_tag
    → first_broken (take header_size input) ≡ Some field
    → ((session : SessionData) → IsSession session → take header_size input ≡ header_record session → ⊥)
    → RefusesHeader input (ends.BadHeader field)
RefusesHeader-broken input field size h broken other = record {
  none = λ session list front rest k.
      let b = front_begins input session list front rest k in
      let whole : length (header_record session) ≡ header_size = length-header_record session b.is_session in
      other session b.is_session
      (ap (take header_size) b.split
      ∙ ap (λ (n : ℕ). take n (header_record session ++ b.more)) (sym whole)
      ∙ take-append_seam (header_record session) b.more);
  refusal = broken_refusal input field size h broken;
}

first_stops : (before after : InputState) (begun : List ℕ) (end : ReadEnd) → IsOfInput end → StopsFirst before after begun end
    → FirstStops before after begun end
first_stops before after begun ends.Memory h p = absurd h
first_stops before after begun ends.ReadFault h p = absurd h
first_stops before after begun ends.NoHeader h p = p
first_stops before after begun (ends.BadHeader field) h p = p
first_stops before after begun (ends.BadTag at byte) h p = p
first_stops before after begun (ends.OtherSession at) h p = p
first_stops before after begun (ends.Truncated at) h p = p
first_stops before after begun ends.TooManyRecords h p = p

-- what begins an input that is refused at its first record is no header
none_begun : (begun rest : List ℕ) (end : ReadEnd) → RefusesHeader (begun ++ rest) end → HasNoRecord None 0 begun
none_begun begun rest end r session more h e =
    r.none session (items.Header 0 ∷ []) (header_record session) (more ++ rest) (record {
      file = IsPacketFile-header session h;
      split = ap (λ (front : List ℕ). front ++ rest) e ∙ append_assoc (header_record session) more rest;
    })

-- an empty input
pub FirstStops-empty : {before after : InputState} (buffer : List ℕ) (count : ℕ) → length buffer ≡ 1 → count ≡ 0 → IsFilled before after buffer count
    → FirstStops before after [] ends.NoHeader
FirstStops-empty {before} {after} buffer count size none f =
    let nothing : left_of after.left ≡ [] = left_of-ended after.left (f.end (omega arith)) in
    let read = subst (λ (n : ℕ). IsRead before.left after.left (take n buffer)) none f.read in
    record {
      left = left_of after.left;
      told = IsTold-of before.left after.left [] read;
      refused = RefusesHeader-none (left_of after.left) (λ some. absurd (omega (arith, some, ap length nothing)));
      read = record { bytes = []; read = read; within = omega arith; none = λ session more h e. absurd (omega (arith, ap length e, length-append (header_record session) more, length-header_record session h)) };
      size = sym (ap (λ (bytes : List ℕ). size_read ends.NoHeader bytes) nothing);
      no_fault = f.no_fault;
    }

no_header_begun : (byte : ℕ) (session : SessionData) (more : List ℕ) → byte ≢ header_tag → byte ∷ [] ≡ header_record session ++ more → ⊥
no_header_begun byte session more h e =
    h (ap (λ (list : List ℕ). get_or list 0 0) (e ∙ ap (λ (front : List ℕ). front ++ more) (header_record-begins session)))

-- another byte than a header's first
pub FirstStops-other : {before after : InputState} (buffer : List ℕ) (count : ℕ) → length buffer ≡ 1 → count ≢ 0 → get_or buffer 0 0 ≢ header_tag
    → IsFilled before after buffer count → FirstStops before after [] ends.NoHeader
FirstStops-other {before} {after} buffer count size some other f =
    let byte = get_or buffer 0 0 in
    record {
      left = byte ∷ left_of after.left;
      told = IsTold-of before.left after.left (byte ∷ []) (read_byte before after buffer count size some f);
      refused = RefusesHeader-none (byte ∷ left_of after.left) (λ h. other);
      read = record {
        bytes = byte ∷ [];
        read = read_byte before after buffer count size some f;
        within = within-one None 0 (byte ∷ []) (omega arith);
        none = λ session more h e. no_header_begun byte session more other e;
      };
      size = omega arith;
      no_fault = f.no_fault;
    }

-- the first byte could not be read
pub FirstStops-unread : {before after : InputState} (size : ℕ) → size ≡ 1 → FailsWithin before after size
    → FirstStops before after [] ends.ReadFault
FirstStops-unread {before} {after} size is f = record {
  fault = f.fault;
  read = record {
    bytes = f.read.bytes;
    read = f.read.read;
    within = within-one None 0 f.read.bytes (omega (arith, f.read.within));
    none = λ session more h e.
        absurd (omega (arith, f.read.within, ap length e, length-append (header_record session) more, length-header_record session h));
  };
}

-- a header that is cut is none
no_first_cut : (bytes : List ℕ) (session : SessionData) (more : List ℕ) → length bytes < 31 → IsSession session
    → header_tag ∷ bytes ≡ header_record session ++ more → ⊥
no_first_cut bytes session more short h e =
    absurd (omega (arith, ap length e, length-append (header_record session) more, length-header_record session h))

first_cut : (before after : InputState) (part : List ℕ) (end : ReadEnd) → length part ≡ 31 → PartIsFilled before after 0 part (Err end)
    → FirstStops before after (header_tag ∷ []) end
first_cut before after part ends.Memory size p = absurd p
first_cut before after part ends.ReadFault size p = record {
  fault = p.fault;
  read = record {
    bytes = p.read.bytes;
    read = p.read.read;
    within = within-first p.read.bytes (omega (arith, p.read.within));
    none = λ session more h e. no_first_cut p.read.bytes session more (omega (arith, p.read.within)) h e;
  };
}
first_cut before after part ends.NoHeader size p = absurd p
first_cut before after part (ends.BadHeader field) size p = absurd p
first_cut before after part (ends.BadTag at byte) size p = absurd p
first_cut before after part (ends.OtherSession at) size p = absurd p
first_cut before after part (ends.Truncated at) size p = record {
  left = p.1.left;
  told = p.1.told;
  refused = subst (λ (place : ℕ). RefusesHeader (header_tag ∷ p.1.left) (ends.Truncated place)) (sym p.0)
      (RefusesHeader-cut (header_tag ∷ p.1.left) (omega arith) refl (omega (arith, p.1.short)));
  read = record {
    bytes = p.1.left;
    read = p.1.read;
    within = within-first p.1.left (omega (arith, p.1.short));
    none = λ session more h e. no_first_cut p.1.left session more (omega (arith, p.1.short)) h e;
  };
  size = refl;
  no_fault = p.1.no_fault;
}
first_cut before after part ends.TooManyRecords size p = absurd p

-- the exit where the first header was cut or couldn't be read
pub TakesFirst-exit : {before after : InputState} {part : List ℕ} {end : ReadEnd} (result : Result SessionData ReadEnd) → length part ≡ 31
    → IsErrAnd result (λ y. y ≡ end) → FillsPart before after 0 part (Err end) → TakesFirst before after (header_tag ∷ []) result
TakesFirst-exit {before} {after} {part} {end} result size h p =
    let q = err_from_is_err_and result h in
    subst (λ (r : Result SessionData ReadEnd). TakesFirst before after (header_tag ∷ []) r) (sym q.1)
    (subst (λ (e : ReadEnd). FirstStops before after (header_tag ∷ []) e) (sym q.2) (first_cut before after part end size p.as_far))

-- a whole header that breaks a rule
pub FirstStops-broken : {before after : InputState} (bytes part : List ℕ) (field : HeaderField) → bytes ≡ header_tag ∷ part → length part ≡ 31
    → first_broken bytes ≡ Some field → ((session : SessionData) → IsSession session → bytes ≡ header_record session → ⊥)
    → FillsPart before after 0 part (Ok tt) → FirstStops before after (header_tag ∷ []) (ends.BadHeader field)
FirstStops-broken {before} {after} bytes part field is size broken other p =
    let filled = p.as_far in
    let whole : length (header_tag ∷ part) ≡ header_size = omega arith in
    let input = header_tag ∷ (part ++ left_of after.left) in
    let front : take header_size input ≡ bytes =
    ap (λ (n : ℕ). take n input) (sym whole) ∙ take-append_seam (header_tag ∷ part) (left_of after.left) ∙ sym is in
    let refused : RefusesHeader input (ends.BadHeader field) =
    RefusesHeader-broken input field (omega (arith, length-append part (left_of after.left))) refl
    (ap first_broken front ∙ broken) (λ session is_session e. other session is_session (sym front ∙ e)) in
    record {
      left = part ++ left_of after.left;
      told = IsTold-of before.left after.left part filled.read;
      refused = refused;
      read = record {
        bytes = part;
        read = filled.read;
        within = within-first part (omega arith);
        none = none_begun (header_tag ∷ part) (left_of after.left) (ends.BadHeader field) refused;
      };
      size = whole;
      no_fault = filled.no_fault;
    }

first_part_after : (before between after : InputState) (bytes : List ℕ) (end : ReadEnd) → IsPart before between bytes
    → StopsFirst between after bytes end → StopsFirst before after [] end
unfolding reads_after
first_part_after before between after bytes end p s = record {
  left = bytes ++ s.left;
  told = IsTold-after before.left between.left bytes s.left p.read s.told;
  refused = s.refused;
  read = reads_after before between after None 0 0 bytes p s.read;
  size = s.size;
  no_fault = s.no_fault ∙ p.no_fault;
}

first_stop_after : (before between after : InputState) (bytes : List ℕ) (end : ReadEnd) → IsPart before between bytes
    → FirstStops between after bytes end → FirstStops before after [] end
first_stop_after before between after bytes ends.Memory p s = s
first_stop_after before between after bytes ends.ReadFault p s = fails_after before between after None 0 0 bytes p s
first_stop_after before between after bytes ends.NoHeader p s = first_part_after before between after bytes _ p s
first_stop_after before between after bytes (ends.BadHeader field) p s = first_part_after before between after bytes _ p s
first_stop_after before between after bytes (ends.BadTag at byte) p s = first_part_after before between after bytes _ p s
first_stop_after before between after bytes (ends.OtherSession at) p s = first_part_after before between after bytes _ p s
first_stop_after before between after bytes (ends.Truncated at) p s = first_part_after before between after bytes _ p s
first_stop_after before between after bytes ends.TooManyRecords p s = first_part_after before between after bytes _ p s

first_after : (before between after : InputState) (bytes : List ℕ) (result : Result SessionData ReadEnd)
    → IsPart before between bytes → TakesFirst between after bytes result → TakesFirst before after [] result
first_after before between after bytes (Ok session) p s = record {
  is_session = s.is_session;
  bytes = bytes ++ s.bytes;
  taken = IsRead-after before.left between.left after.left bytes s.bytes p.read s.taken;
  header = s.header;
  no_fault = s.no_fault ∙ p.no_fault;
}
first_after before between after bytes (Err end) p s = first_stop_after before between after bytes end p s

-- what follows a header's first byte
pub TakesFirst-after : (before between after : InputState) (result : Result SessionData ReadEnd) (buffer : List ℕ) (count : ℕ) → length buffer ≡ 1
    → count ≢ 0 → get_or buffer 0 0 ≡ header_tag → IsFilled before between buffer count → TakesFirst between after (header_tag ∷ []) result
    → TakesFirst before after [] result
TakesFirst-after before between after result buffer count size some is f t =
    first_after before between after (header_tag ∷ []) result
    (record {
      read = subst (λ (byte : ℕ). IsRead before.left between.left (byte ∷ [])) is (read_byte before between buffer count size some f);
      no_fault = f.no_fault;
    }) t

-- ---- a repeat of the header

IsStop-header_cut : (session : SessionData) (records offset : ℕ) (bytes : List ℕ) → length (header_record session) ≡ header_size
    → records ≢ most_records → length bytes < 31 → IsStop session records offset (header_tag ∷ bytes) (ends.Truncated offset)
IsStop-header_cut session records offset bytes size more short = record {
  none = λ item after place e few. no_header_cut session offset item bytes after size short e;
  refusal = refusal-header_cut offset records bytes more short;
}

-- a cut body, of so many bytes
cut_stops : (before after : InputState) (session : SessionData) (records offset byte : ℕ) (part : List ℕ) (end : ReadEnd)
    → ((bytes : List ℕ) → length bytes < length part → length (byte ∷ bytes) ≤ room_of (Some session) records (byte ∷ bytes))
    → ((bytes : List ℕ) → length bytes < length part → HasNoRecord (Some session) offset (byte ∷ bytes))
    → ((bytes : List ℕ) → length bytes < length part → IsStop session records offset (byte ∷ bytes) (ends.Truncated offset))
    → PartIsFilled before after offset part (Err end) → Stops before after session records offset (byte ∷ []) end
cut_stops before after session records offset byte part ends.Memory room none stop p = absurd p
cut_stops before after session records offset byte part ends.ReadFault room none stop p = record {
  cause = record {
    fault = p.fault;
    read = record {
      bytes = p.read.bytes;
      read = p.read.read;
      within = room p.read.bytes p.read.within;
      none = none p.read.bytes p.read.within;
    };
  };
}
cut_stops before after session records offset byte part ends.NoHeader room none stop p = absurd p
cut_stops before after session records offset byte part (ends.BadHeader field) room none stop p = absurd p
cut_stops before after session records offset byte part (ends.BadTag at other) room none stop p = absurd p
cut_stops before after session records offset byte part (ends.OtherSession at) room none stop p = absurd p
cut_stops before after session records offset byte part (ends.Truncated at) room none stop p = record {
  cause = record {
    left = p.1.left;
    told = p.1.told;
    stop = subst (λ (place : ℕ). IsStop session records offset (byte ∷ p.1.left) (ends.Truncated place)) (sym p.0) (stop p.1.left p.1.short);
    read = record {
      bytes = p.1.left;
      read = p.1.read;
      within = room p.1.left p.1.short;
      none = none p.1.left p.1.short;
    };
    size = refl;
    no_fault = p.1.no_fault;
  };
}
cut_stops before after session records offset byte part ends.TooManyRecords room none stop p = absurd p

body_exit : (before after : InputState) (session : SessionData) (offset byte : ℕ) (end : ReadEnd) (result : Result Item ReadEnd) → IsErrAnd result (λ y. y ≡ end)
    → ((records : ℕ) → records ≢ most_records → Stops before after session records offset (byte ∷ []) end)
    → TakesBody before after session offset byte result
body_exit before after session offset byte end result h p =
    let q = err_from_is_err_and result h in
    subst (λ (r : Result Item ReadEnd). TakesBody before after session offset byte r) (sym q.1)
    (subst (λ (e : ReadEnd). TakesBody before after session offset byte (Err e)) (sym q.2) p)

-- the exit where a repeat of the header was cut or couldn't be read
pub TakesBody-header_exit : {before after : InputState} {offset : ℕ} {part : List ℕ} {end : ReadEnd}
    → (session : SessionData) (result : Result Item ReadEnd) → length (header_record session) ≡ header_size → length part ≡ 31 → IsErrAnd result (λ y. y ≡ end)
    → FillsPart before after offset part (Err end) → TakesBody before after session offset header_tag result
TakesBody-header_exit {before} {after} {offset} {part} {end} session result size length_is h p =
    body_exit before after session offset header_tag end result h
    (λ records more. cut_stops before after session records offset header_tag part end
    (λ bytes short. within-header session records bytes more (omega arith))
    (λ bytes short item rest place e. no_header_cut session offset item bytes rest size (omega arith) e)
    (λ bytes short. IsStop-header_cut session records offset bytes size more (omega arith)) p.as_far)

-- a whole header of another session
pub Stops-other : {before after : InputState} {session : SessionData} {offset : ℕ} (part : List ℕ)
    → length (header_record session) ≡ header_size → length part ≡ 31 → (part ≡ header_rest session → ⊥)
    → FillsPart before after offset part (Ok tt)
    → (records : ℕ) → records ≢ most_records → Stops before after session records offset (header_tag ∷ []) (ends.OtherSession offset)
Stops-other {before} {after} {session} {offset} part size length_is differs p records more =
    let filled = p.as_far in
    record {
      cause = record {
        left = part ++ left_of after.left;
        told = IsTold-of before.left after.left part filled.read;
        stop = record {
          none = λ item rest place e few. no_other_header session item part (left_of after.left) rest size length_is differs e;
          refusal = refusal-other offset records (part ++ left_of after.left) more (omega (arith, length-append part (left_of after.left)));
        };
        read = record {
          bytes = part;
          read = filled.read;
          within = within-header session records part more (omega arith);
          none = λ item rest place e.
              no_other_header session item part [] rest size length_is differs (ap (λ (bytes : List ℕ). header_tag ∷ bytes) (append-nil part) ∙ e);
        };
        size = omega arith;
        no_fault = filled.no_fault;
      };
    }

-- the header's bytes after the first one
header_tail : (session : SessionData) (header : List ℕ) → IsSession session → header ≡ header_record session
    → take 31 (drop 1 header) ≡ header_rest session
header_tail session header h e =
    let size : length (header_rest session) ≡ 31 = omega (arith, ap length (header_record-begins session), length-header_record session h) in
    ap (λ (bytes : List ℕ). take 31 (drop 1 bytes)) (e ∙ header_record-begins session) ∙ take_all 31 (header_rest session) (omega arith)

from_not : (b : Bool) → false ≡ not b → b ≡ true
from_not true h = refl
from_not false h = cc

from_not_true : (b : Bool) → true ≡ not b → b ≡ true → ⊥
from_not_true true h k = cc
from_not_true false h k = cc

pub same_tail : (session : SessionData) (header part : List ℕ) → IsSession session → header ≡ header_record session
    → false ≡ not (bytes_eq part (take 31 (drop 1 header))) → part ≡ header_rest session
same_tail session header part h e same =
    (bytes_eq-Decides part (take 31 (drop 1 header))).0 (from_not _ same) ∙ header_tail session header h e

pub other_tail : (session : SessionData) (header part : List ℕ) → IsSession session → header ≡ header_record session
    → true ≡ not (bytes_eq part (take 31 (drop 1 header))) → part ≡ header_rest session → ⊥
other_tail session header part h e differs same =
    from_not_true _ differs ((bytes_eq-Decides part (take 31 (drop 1 header))).1 (same ∙ sym (header_tail session header h e)))

-- the session's header again
pub TakesItem-header : {before after : InputState} {session : SessionData} {offset : ℕ} (part : List ℕ) → part ≡ header_rest session
    → FillsPart before after offset part (Ok tt) → TakesItem before after session offset (header_tag ∷ []) (items.Header offset)
unfolding record_of
TakesItem-header {before} {after} {session} {offset} part same p =
    let filled = p.as_far in
    record {
      bytes = part;
      taken = filled.read;
      record_is = ap (λ (bytes : List ℕ). header_tag ∷ bytes) same ∙ sym (header_record-begins session);
      place = refl;
      no_fault = filled.no_fault;
    }

-- ---- a packet

IsStop-packet_cut : (session : SessionData) (records offset : ℕ) (bytes : List ℕ) → records ≢ most_records → length bytes < 4 + session.m + session.t
    → IsStop session records offset (packet_tag ∷ bytes) (ends.Truncated offset)
IsStop-packet_cut session records offset bytes more short = record {
  none = λ item after place e few. no_packet_cut session offset item bytes after short place e;
  refusal = refusal-packet_cut offset records bytes more;
}

-- the exit where a packet was cut or couldn't be read
pub TakesBody-packet_exit : {before after : InputState} {offset : ℕ} {end : ReadEnd}
    → (session : SessionData) (number coefs payload : List ℕ) (result : Result Item ReadEnd) → IsSession session → length number ≡ 4 → length coefs ≡ session.m → length payload ≡ session.t → IsErrAnd result (λ y. y ≡ end)
    → FillsPart before after offset (number ++ coefs ++ payload) (Err end) → TakesBody before after session offset packet_tag result
TakesBody-packet_exit {before} {after} {offset} {end} session number coefs payload result is_session a b c h p =
    body_exit before after session offset packet_tag end result h
    (λ records more. cut_stops before after session records offset packet_tag (number ++ coefs ++ payload) end
    (λ bytes short. within-packet session records bytes more (omega (arith, length-append (number ++ coefs) payload, length-append number coefs)))
    (λ bytes short item rest place e. no_packet_cut session offset item bytes rest
    (omega (arith, length-append (number ++ coefs) payload, length-append number coefs)) place e)
    (λ bytes short. IsStop-packet_cut session records offset bytes more
    (omega (arith, length-append (number ++ coefs) payload, length-append number coefs)))
    p.as_far)

-- the exit where no memory was found for a packet
pub TakesBody-packet_memory : (input : InputState) (offset : ℕ) (session : SessionData) (result : Result Item ReadEnd) → IsErrAnd result (λ y. y ≡ ends.Memory)
    → TakesBody input input session offset packet_tag result
TakesBody-packet_memory input offset session result h =
    body_exit input input session offset packet_tag ends.Memory result h
    (λ records more. record {
      cause = record {
        no_fault = refl;
        read = record {
          bytes = [];
          read = IsRead-nothing input.left;
          within = within-one (Some session) records (packet_tag ∷ []) (omega arith);
          none = λ item rest place e. no_short session item (packet_tag ∷ []) rest (omega arith) e;
        };
      };
    })

-- what a list is after a write through its whole part
pub written : (size : ℕ) (old new : List ℕ) → size ≡ length old → length new ≡ length old → take size (new ++ drop (length new) old) ≡ new
written size old new e h =
    let size_is : size ≡ length new = omega arith in
    ap (λ (n : ℕ). take n (new ++ drop (length new) old)) size_is ∙ take-append_seam new (drop (length new) old)

pub TakesItem-packet : {before after : InputState} {offset batch : ℕ} (session : SessionData) (number coefs payload : List ℕ)
    → to_be_bytes w32 batch ≡ number → batch < 2 ^ 32 → length coefs ≡ session.m → length payload ≡ session.t
    → AreBytes coefs → AreBytes payload → FillsPart before after offset (number ++ coefs ++ payload) (Ok tt)
    → TakesItem before after session offset (packet_tag ∷ []) (items.Packet offset (record { batch = batch; coefs = coefs; payload = payload }))
unfolding record_of packet_record
TakesItem-packet {before} {after} {offset} {batch} session number coefs payload same fits a b small_coefs small_payload p =
    let filled = p.as_far in
    record {
      bytes = number ++ coefs ++ payload;
      taken = filled.read;
      record_is = ap (λ (front : List ℕ). packet_tag ∷ (front ++ coefs ++ payload)) (sym same);
      place = (refl, record { batch = fits; coefs = a; payload = b; coef_bytes = small_coefs; payload_bytes = small_payload });
      no_fault = filled.no_fault;
    }

-- the exit where a record's body is not given
pub TakesRecord-exit : {before after : InputState} {session : SessionData} {records offset : ℕ} {end : ReadEnd} (result : Result (Option Item) ReadEnd)
    → IsErrAnd result (λ y. y ≡ end) → Stops before after session records offset [] end → TakesRecord before after session records offset result
TakesRecord-exit {before} {after} {session} {records} {offset} {end} result h s =
    let e = err_from_is_err_and result h in
    subst (TakesRecord before after session records offset) (sym (e.1 ∙ ap Err e.2)) s
