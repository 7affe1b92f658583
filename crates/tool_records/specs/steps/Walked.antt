-- What a walk has done between two records, and at a record that was read.
use Rattle.std.specs.Prelude.{ℕ, ◌≡◌, List, [], ◌∷◌, ◌++◌, length, Option, Some, IsSome, Result, Ok, Err}
use Rattle.bats_io.specs.Streams.{IsRead}
use Rattle.bats_format.specs.Reader.{ReaderData, StandsFor, IsOpen}
use Rattle.bats_model.specs.Session.{SessionData}
use Rattle.bats_model.specs.PacketFile.{IsItemAt, record_of}
use Rattle.bats_model.specs.declared.item.Item.{Item}
use Rattle.bats_model.specs.declared.read_end.ReadEnd.{ReadEnd}
use Rattle.bats_model.specs.declared.read_end.ReadEnd.TheVariants as ends
use Rattle.tool_run.specs.declared.stop.Stop.{Stop}
use Rattle.tool_run.specs.declared.stop.Stop.TheVariants as stops
use Rattle.tool_run.specs.Streams.{Ends}
use Rattle.tool_records.specs.declared.walking.Next.TheVariants as takes
use Rattle.tool_records.specs.declared.walking.WalkEnd.{WalkEnd}
use Rattle.tool_records.specs.declared.walking.WalkEnd.TheVariants as walks
use Rattle.tool_records.specs.Walk.{AreRecords, Gives}

-- the records of these items were read, and each item was taken
pub record HasWalked (gives : Gives) (start now : Ends) (reader : ReaderData) : Type 0 where
  pub bytes : List ℕ
  pub list : List Item
  pub stands : StandsFor bytes list reader
  pub is_open : IsOpen reader
  pub read : IsRead start.input.left now.input.left bytes
  pub no_fault : now.input.faults ≡ start.input.faults
  pub given : gives reader.session list start.output now.output (Ok takes.GoesOn)

-- each item was taken but the last, which was read; no session was known before the first
pub record HoldsItem (gives : Gives) (start now : Ends) (reader : ReaderData) (item : Item) : Type 0 where
  pub known : Option SessionData
  pub same : IsSome known → known ≡ Some reader.session
  pub list : List Item
  pub front : List ℕ
  pub records : AreRecords known list front
  pub place : IsItemAt reader.session (length front) item
  pub stands : StandsFor (front ++ record_of reader.session item) (list ++ item ∷ []) reader
  pub is_open : IsOpen reader
  pub read : IsRead start.input.left now.input.left (front ++ record_of reader.session item)
  pub no_fault : now.input.faults ≡ start.input.faults
  pub given : gives reader.session list start.output now.output (Ok takes.GoesOn)

-- how a walk ends whose reading ended so
abbrev pub ending_of : ReadEnd → Result WalkEnd Stop
ending_of ends.Memory = Err stops.Memory
ending_of ends.ReadFault = Err stops.ReadFault
ending_of end = Ok (walks.Refused end)
