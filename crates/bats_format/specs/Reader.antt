-- What a reader of packet files holds, which bytes it has read, and what its next answer is.
use Rattle.std.specs.Prelude.{ℕ, ◌≡◌, ◌≤◌, ◌+◌, ◌⊎◌, Bool, true, false, List, [], ◌∷◌, ◌++◌, length, Option, Some, None, Result, Ok, Err}
use Rattle.bats_io.specs.Faults.{Rose}
use Rattle.bats_io.specs.Streams.{InputState, IsTold, IsRead, IsEnded}
use Rattle.bats_model.specs.Session.{SessionData}
use Rattle.bats_model.specs.Records.{header_record}
use Rattle.bats_model.specs.PacketFile.{IsPacketFile, IsItemAt, record_of, most_records}
use Rattle.bats_model.specs.Refusal.{RefusesRecord}
use Rattle.bats_format.specs.Taking.{ReadsWithin, FirstStops, size_read}
use Rattle.bats_model.specs.declared.item.Item.{Item}
use Rattle.bats_model.specs.declared.item.Item.TheVariants as items
use Rattle.bats_model.specs.declared.read_end.ReadEnd.{ReadEnd}
use Rattle.bats_model.specs.declared.read_end.ReadEnd.TheVariants as ends

-- the session of the first header, how many records and bytes were read, that header counted, whether the end of the input
-- was answered, and the refusal that was answered
pub record ReaderData : Type 0 where
  pub session : SessionData
  pub records : ℕ
  pub offset : ℕ
  pub ended : Bool
  pub refused : Option ReadEnd

-- the reader has read these bytes, which are a packet file of its session and these items
pub record StandsFor (bytes : List ℕ) (list : List Item) (reader : ReaderData) : Type 0 where
  pub read : IsPacketFile reader.session list bytes
  pub records : reader.records ≡ length list
  pub offset : reader.offset ≡ length bytes

-- the reader has answered neither a refusal nor the end
pub record IsOpen (reader : ReaderData) : Type 0 where
  pub not_ended : reader.ended ≡ false
  pub not_refused : reader.refused ≡ None

-- the first header was read, and nothing after it
pub record OpensAt (before after : InputState) (reader : ReaderData) : Type 0 where
  pub is_open : IsOpen reader
  pub taken : IsRead before.left after.left (header_record reader.session)
  pub no_fault : after.faults ≡ before.faults
  pub stands : StandsFor (header_record reader.session) (items.Header 0 ∷ []) reader

-- what the opening of an input answers: a reader that has read the first header, or why there is none
abbrev pub Opens : InputState → InputState → Result ReaderData ReadEnd → Type 0
Opens before after (Ok reader) = OpensAt before after reader
Opens before after (Err end) = FirstStops before after [] end

-- the next record was read, and nothing after it
pub record GivesItem (before after : InputState) (reader reader' : ReaderData) (item : Item) : Type 0 where
  pub was_open : IsOpen reader
  pub is_open : IsOpen reader'
  pub same_session : reader'.session ≡ reader.session
  pub place : IsItemAt reader.session reader.offset item
  pub counted : reader'.records ≡ reader.records + 1
  pub few : reader'.records ≤ most_records
  pub taken : IsRead before.left after.left (record_of reader.session item)
  pub no_fault : after.faults ≡ before.faults
  pub stands : (bytes : List ℕ) (list : List Item) → StandsFor bytes list reader
      → StandsFor (bytes ++ record_of reader.session item) (list ++ item ∷ []) reader'

-- the input ended after a whole record, or that was answered before
pub record GivesEnd (before after : InputState) (reader reader' : ReaderData) : Type 0 where
  pub not_refused : reader.refused ≡ None
  pub ended : reader' ≡ record reader { ended = true }
  pub nothing_left : reader.ended ≡ false → IsEnded before.left
  pub nothing_read : IsRead before.left after.left []
  pub no_fault : after.faults ≡ before.faults

-- the refusal was answered before: nothing was read
pub record RefusesAgain (before after : InputState) (reader reader' : ReaderData) (end : ReadEnd) : Type 0 where
  pub refused : reader.refused ≡ Some end
  pub same : reader' ≡ reader
  pub nothing_read : after ≡ before

-- the input, which is what was read and what was left, is refused so; of the refused record exactly as many bytes were
-- read as the cause asks for, and no whole record
pub record RefusesInput (before after : InputState) (reader reader' : ReaderData) (end : ReadEnd) : Type 0 where
  pub was_open : IsOpen reader
  pub refused : reader' ≡ record reader { refused = Some end }
  pub left : List ℕ
  pub told : IsTold before.left left
  pub is_refused : (bytes : List ℕ) (list : List Item) → StandsFor bytes list reader
      → RefusesRecord (bytes ++ left) reader.session list end
  pub read : ReadsWithin (Some reader.session) reader.records reader.offset before.left after.left []
  pub size : length read.bytes ≡ size_read end left
  pub no_fault : after.faults ≡ before.faults

-- a read failed, before a whole record was read
pub record CannotRead (before after : InputState) (reader reader' : ReaderData) : Type 0 where
  pub was_open : IsOpen reader
  pub refused : reader' ≡ record reader { refused = Some ends.ReadFault }
  pub fault : Rose before.faults after.faults
  pub read : ReadsWithin (Some reader.session) reader.records reader.offset before.left after.left []

-- memory ran out, before a whole record was read
pub record LacksMemory (before after : InputState) (reader reader' : ReaderData) : Type 0 where
  pub was_open : IsOpen reader
  pub refused : reader' ≡ record reader { refused = Some ends.Memory }
  pub read : ReadsWithin (Some reader.session) reader.records reader.offset before.left after.left []
  pub no_fault : after.faults ≡ before.faults

-- a refusal
abbrev pub Refuses : InputState → InputState → ReaderData → ReaderData → ReadEnd → Type 0
Refuses before after reader reader' ends.Memory =
    RefusesAgain before after reader reader' ends.Memory ⊎ LacksMemory before after reader reader'
Refuses before after reader reader' ends.ReadFault =
    RefusesAgain before after reader reader' ends.ReadFault ⊎ CannotRead before after reader reader'
Refuses before after reader reader' end =
    RefusesAgain before after reader reader' end ⊎ RefusesInput before after reader reader' end

-- what the next answer of a reader is
abbrev pub Nexts : InputState → InputState → ReaderData → ReaderData → Result (Option Item) ReadEnd → Type 0
Nexts before after reader reader' (Ok (Some item)) = GivesItem before after reader reader' item
Nexts before after reader reader' (Ok None) = GivesEnd before after reader reader'
Nexts before after reader reader' (Err end) = Refuses before after reader reader' end
