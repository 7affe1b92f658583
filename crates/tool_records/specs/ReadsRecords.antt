-- How far a packet file is read, record by record.
use Rattle.std.specs.Prelude.{ℕ, ◌≡◌, ◌≤◌, List, [], ◌∷◌, ◌++◌, length, Option, None, Some}
use Rattle.bats_io.specs.Streams.{IsRead}
use Rattle.bats_format.specs.Taking.{room_of}
use Rattle.bats_model.specs.Session.{SessionData, IsSession}
use Rattle.bats_model.specs.Records.{header_record}
use Rattle.bats_model.specs.PacketFile.{IsPacketFile, IsItemAt, record_of}
use Rattle.bats_model.specs.declared.item.Item.{Item}
use Rattle.bats_model.specs.declared.item.Item.TheVariants as items

-- Nothing was read yet, or the first bytes are the records of these items of the session, after which the command reads on.
-- The bytes after them are no whole record after which it reads on: no record stands at their front, or they are exactly the
-- record at which the command stops.
abbrev pub ReadsAsFar : (List Item → Type 0) → Option SessionData → List Item → List ℕ → List ℕ → Type 0
ReadsAsFar goes_on None list front begun =
    (list ≡ []) × (front ≡ []) × ((session : SessionData) (more : List ℕ) → IsSession session → begun ≡ header_record session ++ more
    → (more ≡ []) × ¬ goes_on (items.Header 0 ∷ []))
ReadsAsFar goes_on (Some session) list front begun =
    IsPacketFile session list front × goes_on list × ((item : Item) (more : List ℕ) → IsItemAt session (length front) item
    → begun ≡ record_of session item ++ more → (more ≡ []) × ¬ goes_on (list ++ item ∷ []))

-- all whole records were read after which the command reads on, and then no further than one more goes: a part of it, a
-- header that isn't the session's, the record at which the command stops, or one byte where none may begin so
pub record ReadsRecords (goes_on : List Item → Type 0) (before after : Option (List ℕ)) : Type 0 where
  pub session : Option SessionData
  pub list : List Item
  pub front : List ℕ
  pub begun : List ℕ
  pub read : IsRead before after (front ++ begun)
  pub within : length begun ≤ room_of session (length list) begun
  pub as_far : ReadsAsFar goes_on session list front begun
