-- What a keeper has done of the items of a packet file, whatever holds its packets.
use Rattle.std.specs.Prelude.{ℕ, ◌≡◌, ◌≤◌, ◌+◌, ◌*◌, ⊤, List, [], length, Option, None, Some, Result, Ok, Err, string_bytes}
use Rattle.bats_io.specs.Streams.{OutputState}
use Rattle.bats_batch.specs.Held.{max_kept}
use Rattle.bats_batch.specs.declared.held.HeldEnd.{HeldEnd}
use Rattle.bats_batch.specs.declared.held.HeldEnd.TheVariants as held
use Rattle.bats_model.specs.Session.{SessionData}
use Rattle.bats_model.specs.PacketFile.{HasShape, most_records, packets_of}
use Rattle.bats_model.specs.Kept.{kept_count}
use Rattle.bats_model.specs.declared.packet.Packet.{Packet}
use Rattle.bats_model.specs.declared.item.Item.{Item}
use Rattle.bats_model.specs.declared.read_end.ReadEnd.{ReadEnd}
use Rattle.bats_model.specs.declared.read_end.ReadEnd.TheVariants as ends
use Rattle.tool_run.specs.declared.finish.Finish.{Finish}
use Rattle.tool_run.specs.declared.stop.Stop.{Stop}
use Rattle.tool_run.specs.declared.stop.Stop.TheVariants as stops
use Rattle.tool_run.specs.Attempt.{AttemptsUncounted}
use Rattle.tool_run.specs.Ending.{Ending}
use Rattle.tool_run.specs.Streams.{Ends}
use Rattle.tool_records.specs.declared.walking.Next.{Next}
use Rattle.tool_records.specs.declared.walking.Next.TheVariants as takes
use Rattle.tool_records.specs.Keeping.{AreFew, StopsKeeping, keeping_promise}
use Rattle.tool_records.specs.Reading.{refusal_ending}
use Rattle.tool_records.specs.Walk.{WalksToEnd}
use Rattle.tool_records.specs.steps.Came.{CameAfterFew, EndsFull}

-- that these packets of the session are held
abbrev pub Holds : Type 1
Holds = SessionData → List Packet → Type 0

-- what a holder may rely on at a packet: it holds those before, no more of which are kept than may be, and the packet has the
-- session's shape
pub record CanHold (holds : Holds) (session : SessionData) (packets : List Packet) (packet : Packet) : Type 0 where
  pub held : holds session packets
  pub few : kept_count packets ≤ max_kept
  pub shape : HasShape session packet
  pub room : length packets + 1 ≤ most_records

-- these packets are held, or the last is one too many, or memory ran out for it
abbrev pub HoldsAs : Holds → SessionData → List Packet → Result ⊤ HeldEnd → Type 0
HoldsAs holds session packets (Ok done) = holds session packets × (kept_count packets ≤ max_kept)
HoldsAs holds session packets (Err held.Full) = ¬ (kept_count packets ≤ max_kept)
HoldsAs holds session packets (Err held.Memory) = Unit {0}

-- the packets of these items are held, and no more of them are kept than may be
pub record HoldsAll (holds : Holds) (session : SessionData) (list : List Item) : Type 0 where
  pub held : holds session (packets_of list)
  pub few : AreFew list

-- each item was taken in, or the last is a packet too many, or memory ran out for it
abbrev pub KeepsAs : Holds → SessionData → List Item → Result Next Stop → Type 0
KeepsAs holds session list (Ok takes.GoesOn) = HoldsAll holds session list
KeepsAs holds session list (Ok takes.Halts) = EndsFull session list
KeepsAs holds session list (Err stop) = (stop ≡ stops.Memory) × CameAfterFew session list

-- what a keeper has done of these items, whose packets are held so; it writes nothing, and does m operations on payloads at
-- most for each packet, of a counter that was first and is last so
pub record Keeps (holds : Holds) (first last : ℕ) (session : SessionData) (list : List Item) (start now : OutputState)
    (result : Result Next Stop) : Type 0 where
  pub as_far : KeepsAs holds session list result
  pub nothing_written : now ≡ start
  pub worked : last ≤ first + length (packets_of list) * session.m

-- the whole input was kept, or it isn't taken whole and the run ends so, or it was cut short
abbrev pub KeepsAllAs : Holds → ℕ → ℕ → Ends → Ends → Result (Option Finish) Stop → Type 0
KeepsAllAs holds first last start now (Ok None) = WalksToEnd (Keeps holds first last) start now
KeepsAllAs holds first last start now (Ok (Some finish)) = AttemptsUncounted (keeping_promise StopsKeeping) start now (Ok finish)
KeepsAllAs holds first last start now (Err stop) = AttemptsUncounted (keeping_promise StopsKeeping) start now (Err stop)

pub record KeepsAll (holds : Holds) (first last : ℕ) (start now : Ends) (result : Result (Option Finish) Stop) : Type 0 where
  pub as_far : KeepsAllAs holds first last start now result

-- a finish has this ending's status and line, or memory ran out for the line
abbrev pub FinishesBy : Ending → Result Finish Stop → Type 0
FinishesBy ending (Ok finish) = (finish.status ≡ ending.status) × (string_bytes finish.line ≡ ending.line)
FinishesBy ending (Err stop) = stop ≡ stops.Memory

-- how a run ends that could not read the first header
abbrev pub FinishesUnopened : ReadEnd → Result Finish Stop → Type 0
FinishesUnopened ends.ReadFault result = result ≡ Err stops.ReadFault
FinishesUnopened end result = FinishesBy (refusal_ending [] end) result
