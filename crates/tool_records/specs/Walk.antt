-- What a walk over the records of a packet file has done, for any taker of its items.
use Rattle.std.specs.Prelude.{ℕ, ◌≡◌, ◌≤◌, ◌⊎◌, List, [], ◌∷◌, ◌++◌, length, Option, None, Some, IsSome, Result, Ok, Err}
use Rattle.bats_io.specs.Faults.{Rose}
use Rattle.bats_io.specs.Streams.{OutputState, IsRead, IsTold, IsEnded}
use Rattle.bats_format.specs.Taking.{room_of, HasNoRecord}
use Rattle.bats_model.specs.Session.{SessionData}
use Rattle.bats_model.specs.PacketFile.{IsPacketFile, IsItemAt, record_of}
use Rattle.bats_model.specs.declared.item.Item.{Item}
use Rattle.bats_model.specs.declared.read_end.ReadEnd.{ReadEnd}
use Rattle.tool_run.specs.declared.stop.Stop.{Stop}
use Rattle.tool_run.specs.declared.stop.Stop.TheVariants as stops
use Rattle.tool_run.specs.Attempt.{IsOfEnding}
use Rattle.tool_run.specs.Streams.{Ends}
use Rattle.tool_records.specs.declared.walking.Next.{Next}
use Rattle.tool_records.specs.declared.walking.Next.TheVariants as takes
use Rattle.tool_records.specs.declared.walking.WalkEnd.{WalkEnd}
use Rattle.tool_records.specs.declared.walking.WalkEnd.TheVariants as walks
use Rattle.tool_records.specs.Reading.{IsReading, refusal_status}

-- what a taker has done of these items of the session, with the output at the start and now, and its answer to the last
abbrev pub Gives : Type 1
Gives = SessionData → List Item → OutputState → OutputState → Result Next Stop → Type 0

-- each item was taken and the taker goes on; before the first header that holds of every session
abbrev pub GivenSoFar : Gives → Option SessionData → List Item → OutputState → OutputState → Type 0
GivenSoFar gives None list start now = (session : SessionData) → gives session list start now (Ok takes.GoesOn)
GivenSoFar gives (Some session) list start now = gives session list start now (Ok takes.GoesOn)

-- what a walk asks of its taker: that it may begin with any session
abbrev pub Begins : Gives → OutputState → Type 0
Begins gives start = (session : SessionData) → gives session [] start start (Ok takes.GoesOn)

-- what a taker may rely on at an item: each item before it was taken, and with it the bytes read are a packet file
pub record CanTake (gives : Gives) (session : SessionData) (item : Item) (now : OutputState) : Type 0 where
  pub list : List Item
  pub start : OutputState
  pub bytes : List ℕ
  pub given : gives session list start now (Ok takes.GoesOn)
  pub place : IsItemAt session (length bytes) item
  pub file : IsPacketFile session (list ++ item ∷ []) (bytes ++ record_of session item)

-- the bytes are the records of these items of the session, or nothing was read yet
abbrev pub AreRecords : Option SessionData → List Item → List ℕ → Type 0
AreRecords None list bytes = (bytes ≡ []) × (list ≡ [])
AreRecords (Some session) list bytes = IsPacketFile session list bytes

-- the records of these items were read, and then no whole record, and no further than one goes
pub record ReadsItems (session : Option SessionData) (list : List Item) (before after : Option (List ℕ)) : Type 0 where
  pub front : List ℕ
  pub begun : List ℕ
  pub records : AreRecords session list front
  pub read : IsRead before after (front ++ begun)
  pub within : length begun ≤ room_of session (length list) begun
  pub none : HasNoRecord session (length front) begun

-- the records of these items were read, and then that of one more; without the session nothing was read before it
pub record ReadsLast (session : SessionData) (list : List Item) (item : Item) (before after : Option (List ℕ)) : Type 0 where
  pub known : Option SessionData
  pub same : IsSome known → known ≡ Some session
  pub front : List ℕ
  pub records : AreRecords known list front
  pub place : IsItemAt session (length front) item
  pub file : IsPacketFile session (list ++ item ∷ []) (front ++ record_of session item)
  pub read : IsRead before after (front ++ record_of session item)

-- the whole input was read and taken
pub record WalksToEnd (gives : Gives) (start now : Ends) : Type 0 where
  pub session : SessionData
  pub list : List Item
  pub input : List ℕ
  pub told : IsTold start.input.left input
  pub file : IsPacketFile session list input
  pub reads : ReadsItems (Some session) list start.input.left now.input.left
  pub end : IsEnded now.input.left
  pub no_fault : now.input.faults ≡ start.input.faults
  pub given : gives session list start.output now.output (Ok takes.GoesOn)

-- the input is refused after items that were taken
pub record WalksToRefusal (gives : Gives) (start now : Ends) (end : ReadEnd) : Type 0 where
  pub session : Option SessionData
  pub list : List Item
  pub input : List ℕ
  pub told : IsTold start.input.left input
  pub reading : IsReading input session list (Some end)
  pub of_input : IsOfEnding (refusal_status end)
  pub reads : ReadsItems session list start.input.left now.input.left
  pub no_fault : now.input.faults ≡ start.input.faults
  pub given : GivenSoFar gives session list start.output now.output

-- the taker answered so to the last item that was read
pub record WalksToItem (gives : Gives) (start now : Ends) (taken : Result Next Stop) : Type 0 where
  pub session : SessionData
  pub list : List Item
  pub item : Item
  pub reads : ReadsLast session list item start.input.left now.input.left
  pub no_fault : now.input.faults ≡ start.input.faults
  pub given : gives session (list ++ item ∷ []) start.output now.output taken

-- a read failed, or memory ran out while a record was read
abbrev pub ReadingStops : Stop → ℕ → ℕ → Type 0
ReadingStops stops.ReadFault before after = Rose before after
ReadingStops stops.Memory before after = after ≡ before
ReadingStops stops.WriteFault before after = ⊥

pub record WalksToStop (gives : Gives) (start now : Ends) (stop : Stop) : Type 0 where
  pub session : Option SessionData
  pub list : List Item
  pub reads : ReadsItems session list start.input.left now.input.left
  pub faults : ReadingStops stop start.input.faults now.input.faults
  pub given : GivenSoFar gives session list start.output now.output

abbrev pub WalksAs : Gives → Ends → Ends → Result WalkEnd Stop → Type 0
WalksAs gives start now (Ok walks.Whole) = WalksToEnd gives start now
WalksAs gives start now (Ok (walks.Refused end)) = WalksToRefusal gives start now end
WalksAs gives start now (Ok walks.Halted) = WalksToItem gives start now (Ok takes.Halts)
WalksAs gives start now (Err stop) = WalksToItem gives start now (Err stop) ⊎ WalksToStop gives start now stop

-- a walk whose taker has done this ended so
pub record Walks (gives : Gives) (start now : Ends) (result : Result WalkEnd Stop) : Type 0 where
  pub as_far : WalksAs gives start now result
