-- Packet files: which bytes stand for a session and a list of items. The definition has no reader: it says which bytes
-- the records of the items are.
use Rattle.std.specs.Prelude.{ℕ, ◌≡◌, ◌<◌, ◌≤◌, ◌+◌, ◌^◌, List, [], ◌∷◌, length, flat_map}
use Rattle.bats_model.specs.Bytes.{AreBytes}
use Rattle.bats_model.specs.Session.{SessionData, IsSession}
use Rattle.bats_model.specs.Records.{header_record, packet_record}
use Rattle.bats_model.specs.declared.packet.Packet.{Packet}
use Rattle.bats_model.specs.declared.item.Item.{Item}
use Rattle.bats_model.specs.declared.item.Item.TheVariants as items

-- records of a packet file, headers counted, at most
abbrev pub most_records : ℕ
most_records = 1048576

-- the packet has M coefficients and T payload bytes, all of them bytes, and a batch number of four bytes
pub record HasShape (session : SessionData) (packet : Packet) : Type 0 where
  pub batch : packet.batch < 2 ^ 32
  pub coefs : length packet.coefs ≡ session.m
  pub payload : length packet.payload ≡ session.t
  pub coef_bytes : AreBytes packet.coefs
  pub payload_bytes : AreBytes packet.payload

-- the record of an item: the session's one header, or the packet's record
unfoldable pub record_of : SessionData → Item → List ℕ
record_of session (items.Header at) = header_record session
record_of session (items.Packet at packet) = packet_record packet.batch packet.coefs packet.payload

-- the item is one of the session, at this offset
abbrev pub IsItemAt : SessionData → ℕ → Item → Type 0
IsItemAt session offset (items.Header at) = at ≡ offset
IsItemAt session offset (items.Packet at packet) = (at ≡ offset) × HasShape session packet

-- the items are ones of the session, one record after another from this offset on: each offset is the sum of the lengths of
-- the records before it
unfoldable pub AreItemsFrom : SessionData → ℕ → List Item → Type 0
AreItemsFrom session offset [] = Unit {0}
AreItemsFrom session offset (item ∷ rest) =
    IsItemAt session offset item × AreItemsFrom session (offset + length (record_of session item)) rest

-- the first item is a header
abbrev pub BeginsWithHeader : List Item → Type 0
BeginsWithHeader [] = ⊥
BeginsWithHeader (items.Header at ∷ rest) = Unit {0}
BeginsWithHeader (items.Packet at packet ∷ rest) = ⊥

-- the bytes stand for the session and the items: a header, and then packets and repeats of the header
pub record IsPacketFile (session : SessionData) (list : List Item) (bytes : List ℕ) : Type 0 where
  pub is_session : IsSession session
  pub header : BeginsWithHeader list
  pub places : AreItemsFrom session 0 list
  pub few : length list ≤ most_records
  pub records : bytes ≡ flat_map (record_of session) list

-- the packets among the items, in their order
unfoldable pub packets_of : List Item → List Packet
packets_of [] = []
packets_of (items.Header at ∷ rest) = packets_of rest
packets_of (items.Packet at packet ∷ rest) = packet ∷ packets_of rest
