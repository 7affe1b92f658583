-- How far a packet file was read.
use Rattle.std.proofs.Common.{ℕ, ◌+◌, List, [], ◌∷◌, ◌≡◌, ◌<◌, ◌≤◌, length, drop, Option, None, Some, arith, refl, ap, length-append}
use Rattle.std.proofs.lemmas.Bool.Decides.{nat_tests}
use Rattle.bats_io.specs.Streams.{IsRead}
use Rattle.bats_model.specs.Session.{SessionData, IsSession}
use Rattle.bats_model.specs.Records.{header_record, packet_record, header_tag, packet_tag}
use Rattle.bats_model.specs.PacketFile.{IsItemAt, record_of, most_records}
use Rattle.bats_model.specs.Refusal.{header_size}
use Rattle.bats_model.specs.declared.item.Item.{Item}
use Rattle.bats_model.specs.declared.item.Item.TheVariants as items
use Rattle.bats_format.specs.Taking.{HasNoRecord, room_of, ReadsWithin}
use Rattle.bats_format.proofs.RecordLemmas.{length-header_record, length-packet_record, record_of-some}
use Rattle.tool_records.specs.ReadsRecords.{ReadsAsFar}
use Rattle.tool_records.specs.Walk.{AreRecords}

-- these records were read, after which the command reads on, and then bytes that are no whole record
pub reads_as_far : (goes_on : List Item → Type 0) (session : Option SessionData) (list : List Item) (front begun : List ℕ)
    → goes_on list → AreRecords session list front → HasNoRecord session (length front) begun → ReadsAsFar goes_on session list front begun
reads_as_far goes_on None list front begun on records none =
    (records.1, records.0, λ session more is same. absurd (none session more is same))
reads_as_far goes_on (Some session) list front begun on records none =
    (records, on, λ item more place same. absurd (none item more place same))

-- no record is empty
pub none_empty : (session : Option SessionData) (offset : ℕ) → HasNoRecord session offset []
none_empty None offset = λ session more h e.
    absurd (omega (arith, ap length e, length-append (header_record session) more, length-header_record session h))
none_empty (Some session) offset = λ item more place e.
    absurd (omega (arith, ap length e, length-append (record_of session item) more, record_of-some session item))

-- nothing more was read
pub ReadsWithin-nothing : (session : Option SessionData) (records offset : ℕ) (a b : Option (List ℕ)) → IsRead a b []
    → ReadsWithin session records offset a b []
ReadsWithin-nothing session records offset a b r = record { bytes = []; read = r; within = omega arith; none = none_empty session offset }

-- a record goes no further than one
within-header : (session : SessionData) (records : ℕ) (bytes : List ℕ) → records < most_records → bytes ≡ header_tag ∷ drop 1 bytes
    → length bytes ≤ header_size → length bytes ≤ room_of (Some session) records bytes
within-header session records [] few e h = omega arith
within-header session records (tag ∷ bytes) few e h = let is : tag ≡ header_tag = cc in grind (arith, nat_tests)

within-packet : (session : SessionData) (records : ℕ) (bytes : List ℕ) → records < most_records → bytes ≡ packet_tag ∷ drop 1 bytes
    → length bytes ≤ 5 + session.m + session.t → length bytes ≤ room_of (Some session) records bytes
within-packet session records [] few e h = omega arith
within-packet session records (tag ∷ bytes) few e h = let is : tag ≡ packet_tag = cc in grind (arith, nat_tests)

pub record_of-within : (session : SessionData) (records offset : ℕ) (item : Item) → records < most_records → IsSession session
    → IsItemAt session offset item → length (record_of session item) ≤ room_of (Some session) records (record_of session item)
unfolding record_of header_record packet_record
record_of-within session records offset (items.Header at) few is place =
    within-header session records (header_record session) few refl (omega (arith, length-header_record session is))
record_of-within session records offset (items.Packet at packet) few is place =
    within-packet session records (packet_record packet.batch packet.coefs packet.payload) few refl
    (omega (arith, length-packet_record session packet place.1))
