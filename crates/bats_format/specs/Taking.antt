-- What the reading of one record leaves of a source, and what its answer is.
use Rattle.std.specs.Prelude.{ℕ, ◌≡◌, ◌≢◌, ◌<◌, ◌≤◌, ◌+◌, ◌==◌, if◌then◌else◌, min, List, [], ◌∷◌, ◌++◌, length, Option, Some, None, Result, Ok, Err}
use Rattle.bats_io.specs.Faults.{Rose}
use Rattle.bats_io.specs.Streams.{InputState, IsTold, IsRead, IsEnded}
use Rattle.bats_model.specs.Session.{SessionData, IsSession}
use Rattle.bats_model.specs.Records.{header_record, header_tag, packet_tag}
use Rattle.bats_model.specs.PacketFile.{IsItemAt, record_of, most_records}
use Rattle.bats_model.specs.Refusal.{RefusesHeader, header_size, first_refusal}
use Rattle.bats_model.specs.declared.item.Item.{Item}
use Rattle.bats_model.specs.declared.read_end.ReadEnd.{ReadEnd}
use Rattle.bats_model.specs.declared.read_end.ReadEnd.TheVariants as ends
use Rattle.bats_format.specs.declared.records.Tag.{Tag}
use Rattle.bats_format.specs.declared.records.Tag.TheVariants as tags

-- bytes of a record at most: a packet's with 32 coefficients and 2,048 bytes of payload
abbrev pub most_of_record : ℕ
most_of_record = 2085

-- no whole record stands at the front of these bytes, which are those at the offset: none of the session, or, where no
-- session is known yet, no header of any
abbrev pub HasNoRecord : Option SessionData → ℕ → List ℕ → Type 0
HasNoRecord None offset bytes = (session : SessionData) (more : List ℕ) → IsSession session → bytes ≡ header_record session ++ more → ⊥
HasNoRecord (Some session) offset bytes =
    (item : Item) (more : List ℕ) → IsItemAt session offset item → bytes ≡ record_of session item ++ more → ⊥

-- how many bytes a record has at most that begins so, after so many: those of a header, where no session is known yet;
-- and where no record may begin so, the first byte alone
abbrev pub room_of : Option SessionData → ℕ → List ℕ → ℕ
room_of None records [] = 0
room_of None records (tag ∷ bytes) = if tag == header_tag then header_size else 1
room_of (Some session) records [] = 0
room_of (Some session) records (tag ∷ bytes) =
    if records == most_records then 1
    else if tag == header_tag then header_size else if tag == packet_tag then 5 + session.m + session.t else 1

-- bytes were read: with those before, no whole record stands at their front, and they go no further than one
pub record ReadsWithin (session : Option SessionData) (records offset : ℕ) (before after : Option (List ℕ)) (begun : List ℕ) : Type 0 where
  pub bytes : List ℕ
  pub read : IsRead before after bytes
  pub within : length (begun ++ bytes) ≤ room_of session records (begun ++ bytes)
  pub none : HasNoRecord session offset (begun ++ bytes)

-- how many bytes of these are read where they are refused so: a header's, which is judged whole, all of a record that is
-- cut, and else one
abbrev pub size_read : ReadEnd → List ℕ → ℕ
size_read ends.NoHeader bytes = min 1 (length bytes)
size_read (ends.BadHeader field) bytes = header_size
size_read (ends.OtherSession at) bytes = header_size
size_read (ends.Truncated at) bytes = length bytes
size_read _ bytes = 1

-- a read failed
pub record FailsAt (before after : InputState) (session : Option SessionData) (records offset : ℕ) (begun : List ℕ) : Type 0 where
  pub fault : Rose before.faults after.faults
  pub read : ReadsWithin session records offset before.left after.left begun

-- ---- the first record

-- the session's header was read, of which these bytes were read before
pub record TakesHeader (before after : InputState) (begun : List ℕ) (session : SessionData) : Type 0 where
  pub is_session : IsSession session
  pub bytes : List ℕ
  pub taken : IsRead before.left after.left bytes
  pub header : begun ++ bytes ≡ header_record session
  pub no_fault : after.faults ≡ before.faults

-- what was read before and what was left are refused at the first record
pub record StopsFirst (before after : InputState) (begun : List ℕ) (end : ReadEnd) : Type 0 where
  pub left : List ℕ
  pub told : IsTold before.left left
  pub refused : RefusesHeader (begun ++ left) end
  pub read : ReadsWithin None 0 0 before.left after.left begun
  pub size : length (begun ++ read.bytes) ≡ size_read end (begun ++ left)
  pub no_fault : after.faults ≡ before.faults

abbrev pub FirstStops : InputState → InputState → List ℕ → ReadEnd → Type 0
FirstStops before after begun ends.Memory = ⊥
FirstStops before after begun ends.ReadFault = FailsAt before after None 0 0 begun
FirstStops before after begun end = StopsFirst before after begun end

abbrev pub TakesFirst : InputState → InputState → List ℕ → Result SessionData ReadEnd → Type 0
TakesFirst before after begun (Ok session) = TakesHeader before after begun session
TakesFirst before after begun (Err end) = FirstStops before after begun end

-- ---- a record after it

-- no item of the session stands at the front of these bytes, and they are refused so
pub record IsStop (session : SessionData) (records offset : ℕ) (bytes : List ℕ) (end : ReadEnd) : Type 0 where
  pub none : (item : Item) (more : List ℕ) → IsItemAt session offset item → bytes ≡ record_of session item ++ more
      → records < most_records → ⊥
  pub refusal : first_refusal offset records bytes ≡ Some end

-- what was read before and what was left are refused so
pub record StopsAt (before after : InputState) (session : SessionData) (records offset : ℕ) (begun : List ℕ) (end : ReadEnd) : Type 0 where
  pub left : List ℕ
  pub told : IsTold before.left left
  pub stop : IsStop session records offset (begun ++ left) end
  pub read : ReadsWithin (Some session) records offset before.left after.left begun
  pub size : length (begun ++ read.bytes) ≡ size_read end (begun ++ left)
  pub no_fault : after.faults ≡ before.faults

-- memory ran out, before a whole record was read
pub record LacksMemoryAt (before after : InputState) (session : SessionData) (records offset : ℕ) (begun : List ℕ) : Type 0 where
  pub no_fault : after.faults ≡ before.faults
  pub read : ReadsWithin (Some session) records offset before.left after.left begun

abbrev pub StopCause : InputState → InputState → SessionData → ℕ → ℕ → List ℕ → ReadEnd → Type 0
StopCause before after session records offset begun ends.Memory = LacksMemoryAt before after session records offset begun
StopCause before after session records offset begun ends.ReadFault = FailsAt before after (Some session) records offset begun
StopCause before after session records offset begun end = StopsAt before after session records offset begun end

-- a record of which these bytes were read before isn't given
pub record Stops (before after : InputState) (session : SessionData) (records offset : ℕ) (begun : List ℕ) (end : ReadEnd) : Type 0 where
  pub cause : StopCause before after session records offset begun end

-- the byte that a record begins with
abbrev pub byte_of : Tag → ℕ
byte_of tags.Header = header_tag
byte_of tags.Packet = packet_tag

-- what begins with this byte, or why it is refused, whatever follows
abbrev pub TagIs : ℕ → ℕ → ℕ → Result Tag ReadEnd → Type 0
TagIs byte records offset (Ok tag) = (byte ≡ byte_of tag) × (records ≢ most_records)
TagIs byte records offset (Err end) =
    (session : SessionData) (rest : List ℕ) → IsStop session records offset (byte ∷ rest) end × (size_read end (byte ∷ rest) ≡ 1)

-- the byte was read, and more records may come
pub record TakesByte (before after : InputState) (records byte : ℕ) : Type 0 where
  pub taken : IsRead before.left after.left (byte ∷ [])
  pub more : records ≢ most_records
  pub no_fault : after.faults ≡ before.faults

-- the input has ended
pub record FindsEnd (before after : InputState) : Type 0 where
  pub end : IsEnded before.left
  pub nothing_read : IsRead before.left after.left []
  pub no_fault : after.faults ≡ before.faults

abbrev pub TakesTag : InputState → InputState → ℕ → ℕ → Result (Option Tag) ReadEnd → Type 0
TakesTag before after records offset (Ok (Some tag)) = TakesByte before after records (byte_of tag)
TakesTag before after records offset (Ok None) = FindsEnd before after
TakesTag before after records offset (Err end) = (session : SessionData) → Stops before after session records offset [] end

-- the item's record was read, of which these bytes were read before
pub record TakesItem (before after : InputState) (session : SessionData) (offset : ℕ) (begun : List ℕ) (item : Item) : Type 0 where
  pub bytes : List ℕ
  pub taken : IsRead before.left after.left bytes
  pub record_is : begun ++ bytes ≡ record_of session item
  pub place : IsItemAt session offset item
  pub no_fault : after.faults ≡ before.faults

-- what follows the first byte of a record
abbrev pub TakesBody : InputState → InputState → SessionData → ℕ → ℕ → Result Item ReadEnd → Type 0
TakesBody before after session offset byte (Ok item) = TakesItem before after session offset (byte ∷ []) item
TakesBody before after session offset byte (Err end) =
    (records : ℕ) → records ≢ most_records → Stops before after session records offset (byte ∷ []) end

-- the item, where more records may come
pub record TakesNext (before after : InputState) (session : SessionData) (records offset : ℕ) (item : Item) : Type 0 where
  pub item_is : TakesItem before after session offset [] item
  pub few : records < most_records

-- the next record after the first ones
abbrev pub TakesRecord : InputState → InputState → SessionData → ℕ → ℕ → Result (Option Item) ReadEnd → Type 0
TakesRecord before after session records offset (Ok (Some item)) = TakesNext before after session records offset item
TakesRecord before after session records offset (Ok None) = FindsEnd before after
TakesRecord before after session records offset (Err end) = Stops before after session records offset [] end
