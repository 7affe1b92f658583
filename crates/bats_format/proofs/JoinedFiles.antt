-- Two packet files of one session, one after the other, are a packet file: the records of the second stand further on.
use Rattle.std.proofs.Common.{ℕ, ◌≡◌, ◌+◌, ◌≤◌, ◌∙◌, sym, ap, refl, subst, List, [], ◌∷◌, ◌++◌, length, map, arith}
use Rattle.std.proofs.lemmas.List.{length-append, length-map}
use Rattle.std.proofs.lemmas.List.Concat.{flat_map-append}
use Rattle.bats_model.specs.Session.{SessionData}
use Rattle.bats_model.specs.PacketFile.{IsPacketFile, IsItemAt, AreItemsFrom, record_of, most_records, packets_of}
use Rattle.bats_model.specs.declared.packet.Packet.{Packet}
use Rattle.bats_model.specs.declared.item.Item.{Item}
use Rattle.bats_model.specs.declared.item.Item.TheVariants as items
use Rattle.bats_format.proofs.PacketFiles.{records_of, begins-more, AreItemsFrom-append}

-- the item some bytes further on
abbrev moved : ℕ → Item → Item
moved bytes (items.Header at) = items.Header (bytes + at)
moved bytes (items.Packet at packet) = items.Packet (bytes + at) packet

record_of-moved : (session : SessionData) (bytes : ℕ) (item : Item) → record_of session (moved bytes item) ≡ record_of session item
unfolding record_of
record_of-moved session bytes (items.Header at) = refl
record_of-moved session bytes (items.Packet at packet) = refl

records_of-moved : (session : SessionData) (bytes : ℕ) (list : List Item) → records_of session (map (moved bytes) list) ≡ records_of session list
records_of-moved session bytes [] = refl
records_of-moved session bytes (item ∷ list) =
    ap (λ (x : List ℕ). x ++ records_of session (map (moved bytes) list)) (record_of-moved session bytes item)
    ∙ ap (λ (x : List ℕ). record_of session item ++ x) (records_of-moved session bytes list)

IsItemAt-moved : (session : SessionData) (bytes offset : ℕ) (item : Item) → IsItemAt session offset item
    → IsItemAt session (bytes + offset) (moved bytes item)
IsItemAt-moved session bytes offset (items.Header at) h = ap (λ (n : ℕ). bytes + n) h
IsItemAt-moved session bytes offset (items.Packet at packet) h = (ap (λ (n : ℕ). bytes + n) h.0, h.1)

next-moved : (session : SessionData) (bytes offset : ℕ) (item : Item)
    → bytes + (offset + length (record_of session item)) ≡ (bytes + offset) + length (record_of session (moved bytes item))
next-moved session bytes offset item = omega (arith, ap length (record_of-moved session bytes item))

AreItemsFrom-moved : (session : SessionData) (bytes offset : ℕ) (list : List Item) → AreItemsFrom session offset list
    → AreItemsFrom session (bytes + offset) (map (moved bytes) list)
unfolding AreItemsFrom
AreItemsFrom-moved session bytes offset [] h = tt
AreItemsFrom-moved session bytes offset (item ∷ list) h = (
  IsItemAt-moved session bytes offset item h.0,
  subst (λ (n : ℕ). AreItemsFrom session n (map (moved bytes) list)) (next-moved session bytes offset item)
      (AreItemsFrom-moved session bytes (offset + length (record_of session item)) list h.1),
)

packets_of-moved : (bytes : ℕ) (list : List Item) → packets_of (map (moved bytes) list) ≡ packets_of list
unfolding packets_of
packets_of-moved bytes [] = refl
packets_of-moved bytes (items.Header at ∷ list) = packets_of-moved bytes list
packets_of-moved bytes (items.Packet at packet ∷ list) = ap (λ (x : List Packet). packet ∷ x) (packets_of-moved bytes list)

pub packets_of-append : (list others : List Item) → packets_of (list ++ others) ≡ packets_of list ++ packets_of others
unfolding packets_of
packets_of-append [] others = refl
packets_of-append (items.Header at ∷ list) others = packets_of-append list others
packets_of-append (items.Packet at packet ∷ list) others = ap (λ (x : List Packet). packet ∷ x) (packets_of-append list others)

joined_places : (session : SessionData) (list others : List Item) (bytes more : List ℕ)
    → IsPacketFile session list bytes → IsPacketFile session others more
    → AreItemsFrom session 0 (list ++ map (moved (length bytes)) others)
joined_places session list others bytes more h k =
    AreItemsFrom-append session 0 list (map (moved (length bytes)) others) h.places
    (subst (λ (n : ℕ). AreItemsFrom session n (map (moved (length bytes)) others)) (omega (arith, ap length h.records))
    (AreItemsFrom-moved session (length bytes) 0 others k.places))

joined_records : (session : SessionData) (list others : List Item) (bytes more : List ℕ)
    → IsPacketFile session list bytes → IsPacketFile session others more
    → bytes ++ more ≡ records_of session (list ++ map (moved (length bytes)) others)
joined_records session list others bytes more h k =
    ap (λ (x : List ℕ). x ++ more) h.records
    ∙ ap (λ (x : List ℕ). records_of session list ++ x) (k.records ∙ sym (records_of-moved session (length bytes) others))
    ∙ sym (flat_map-append (record_of session) list (map (moved (length bytes)) others))

joined_file : (session : SessionData) (list others : List Item) (bytes more : List ℕ)
    → IsPacketFile session list bytes → IsPacketFile session others more → length list + length others ≤ most_records
    → IsPacketFile session (list ++ map (moved (length bytes)) others) (bytes ++ more)
joined_file session list others bytes more h k few = record {
  is_session = h.is_session;
  header = begins-more list (map (moved (length bytes)) others) h.header;
  places = joined_places session list others bytes more h k;
  few = omega (arith, length-append list (map (moved (length bytes)) others), length-map others (moved (length bytes)));
  records = joined_records session list others bytes more h k;
}

-- the packets of a joined file are those of the first file, and then those of the second
pub joined_files : (session : SessionData) (list others : List Item) (bytes more : List ℕ)
    → IsPacketFile session list bytes → IsPacketFile session others more → length list + length others ≤ most_records
    → (joined : List Item) × (IsPacketFile session joined (bytes ++ more) × (packets_of joined ≡ packets_of list ++ packets_of others))
joined_files session list others bytes more h k few = (
  list ++ map (moved (length bytes)) others,
  (
    joined_file session list others bytes more h k few,
    packets_of-append list (map (moved (length bytes)) others)
        ∙ ap (λ (x : List Packet). packets_of list ++ x) (packets_of-moved (length bytes) others),
  ),
)
