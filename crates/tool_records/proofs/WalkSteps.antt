-- A walk over the records of a packet file, step by step.
use Rattle.std.proofs.Common.{ℕ, ◌≡◌, ◌≤◌, ◌⊎◌, List, [], ◌∷◌, ◌++◌, length, Option, None, Some, Result, Ok, refl, sym, ◌∙◌, subst, inl, inr}
use Rattle.bats_io.specs.Faults.{Rose}
use Rattle.bats_io.specs.Streams.{InputState, OutputState, IsRead}
use Rattle.bats_io.proofs.ReadLemmas.{IsRead-after, IsTold-after, IsTold-read}
use Rattle.bats_format.specs.Reader.{ReaderData, StandsFor, IsOpen, OpensAt, GivesItem, GivesEnd, Refuses, RefusesAgain, RefusesInput}
use Rattle.bats_format.specs.Taking.{ReadsWithin, HasNoRecord, StopsFirst, FirstStops, room_of}
use Rattle.bats_model.specs.Session.{SessionData}
use Rattle.bats_model.specs.PacketFile.{IsItemAt, IsPacketFile, record_of}
use Rattle.bats_model.specs.declared.item.Item.{Item}
use Rattle.bats_model.specs.declared.item.Item.TheVariants as items
use Rattle.bats_model.specs.declared.read_end.ReadEnd.{ReadEnd}
use Rattle.bats_model.specs.declared.read_end.ReadEnd.TheVariants as ends
use Rattle.tool_run.specs.declared.stop.Stop.{Stop}
use Rattle.tool_run.specs.declared.stop.Stop.TheVariants as stops
use Rattle.tool_run.specs.Attempt.{IsOfEnding}
use Rattle.tool_run.specs.Streams.{Ends}
use Rattle.tool_records.specs.declared.walking.Next.{Next}
use Rattle.tool_records.specs.declared.walking.Next.TheVariants as takes
use Rattle.tool_records.specs.declared.walking.WalkEnd.{WalkEnd}
use Rattle.tool_records.specs.Reading.{refusal_status}
use Rattle.tool_records.specs.Walk.{Gives, Begins, CanTake, ReadsItems, ReadingStops, WalksToEnd, WalksToRefusal, WalksToItem, WalksToStop, WalksAs, Walks}
use Rattle.tool_records.specs.steps.Walked.{HasWalked, HoldsItem, ending_of}
use Rattle.tool_records.proofs.RecordsRead.{ReadsWithin-nothing}
use Rattle.tool_records.proofs.ReaderAnswers.{still_ended}

-- the ends once the input is so, and nothing was written
abbrev pub with_input : Ends → InputState → Ends
with_input ends input = record { input = input; output = ends.output }

-- ---- an item

-- the first, once a reader was opened
pub HoldsItem-first : (gives : Gives) (start : InputState) (now : Ends) (reader : ReaderData) → OpensAt start now.input reader
    → gives reader.session [] now.output now.output (Ok takes.GoesOn)
    → HoldsItem gives (record { input = start; output = now.output }) now reader (items.Header 0)
unfolding record_of
HoldsItem-first gives start now reader o begins = record {
  known = None;
  same = λ some. cc;
  list = [];
  front = [];
  records = (refl, refl);
  place = refl;
  stands = o.stands;
  is_open = o.is_open;
  read = o.taken;
  no_fault = o.no_fault;
  given = begins;
}

-- what the taker may rely on
unfoldable pub CanTake-item : (gives : Gives) (start now : Ends) (reader : ReaderData) (item : Item) → HoldsItem gives start now reader item
    → CanTake gives reader.session item now.output
CanTake-item gives start now reader item h = record {
  list = h.list;
  start = start.output;
  bytes = h.front;
  given = h.given;
  place = h.place;
  file = h.stands.read;
}

-- the taker's answer to the item, for the session that the reader shows
pub Gives-item : (gives gives' : Gives) (start y : Ends) (after : OutputState) (reader : ReaderData) (shown : SessionData) (item : Item) (taken answer : Result Next Stop)
    → shown ≡ reader.session → taken ≡ answer
    → ((so_far : CanTake gives shown item y.output) → gives' shown (so_far.list ++ item ∷ []) so_far.start after taken)
    → (h : HoldsItem gives start y reader item) → gives' reader.session (h.list ++ item ∷ []) start.output after answer
unfolding CanTake-item
Gives-item gives gives' start y after reader shown item taken answer same is f h =
    let for_reader : (so_far : CanTake gives reader.session item y.output) → gives' reader.session (so_far.list ++ item ∷ []) so_far.start after taken =
    subst (λ (s : SessionData). (so_far : CanTake gives s item y.output) → gives' s (so_far.list ++ item ∷ []) so_far.start after taken) same f in
    subst (λ (t : Result Next Stop). gives' reader.session (h.list ++ item ∷ []) start.output after t) is
    (for_reader (CanTake-item gives start y reader item h))

-- the item at which the walk ends
pub WalksToItem-held : (gives gives' : Gives) (start y : Ends) (after : OutputState) (reader : ReaderData) (item : Item) (taken : Result Next Stop)
    → (h : HoldsItem gives start y reader item) → gives' reader.session (h.list ++ item ∷ []) start.output after taken
    → WalksToItem gives' start (record { input = y.input; output = after }) taken
WalksToItem-held gives gives' start y after reader item taken h given = record {
  session = reader.session;
  list = h.list;
  item = item;
  reads = record {
    known = h.known;
    same = h.same;
    front = h.front;
    records = h.records;
    place = h.place;
    file = h.stands.read;
    read = h.read;
  };
  no_fault = h.no_fault;
  given = given;
}

-- it was taken
pub HasWalked-item : (gives gives' : Gives) (start y : Ends) (after : OutputState) (reader : ReaderData) (item : Item)
    → (h : HoldsItem gives start y reader item) → gives' reader.session (h.list ++ item ∷ []) start.output after (Ok takes.GoesOn)
    → HasWalked gives' start (record { input = y.input; output = after }) reader
HasWalked-item gives gives' start y after reader item h given = record {
  bytes = h.front ++ record_of reader.session item;
  list = h.list ++ item ∷ [];
  stands = h.stands;
  is_open = h.is_open;
  read = h.read;
  no_fault = h.no_fault;
  given = given;
}

-- the next was read
pub HoldsItem-next : (gives : Gives) (start y : Ends) (z : InputState) (reader reader' : ReaderData) (item : Item) → HasWalked gives start y reader
    → GivesItem y.input z reader reader' item → HoldsItem gives start (with_input y z) reader' item
HoldsItem-next gives start y z reader reader' item w g =
    let same : reader.session ≡ reader'.session = sym g.same_session in
    record {
      known = Some reader'.session;
      same = λ some. refl;
      list = w.list;
      front = w.bytes;
      records = subst (λ (s : SessionData). IsPacketFile s w.list w.bytes) same w.stands.read;
      place = subst (λ (s : SessionData). IsItemAt s (length w.bytes) item) same
          (subst (λ (at : ℕ). IsItemAt reader.session at item) w.stands.offset g.place);
      stands = subst (λ (s : SessionData). StandsFor (w.bytes ++ record_of s item) (w.list ++ item ∷ []) reader') same (g.stands w.bytes w.list w.stands);
      is_open = g.is_open;
      read = subst (λ (s : SessionData). IsRead start.input.left z.left (w.bytes ++ record_of s item)) same
          (IsRead-after start.input.left y.input.left z.left w.bytes (record_of reader.session item) w.read g.taken);
      no_fault = g.no_fault ∙ w.no_fault;
      given = subst (λ (s : SessionData). gives s w.list start.output y.output (Ok takes.GoesOn)) same w.given;
    }

-- ---- the end of the input

-- the records so far, and then no whole one
reads_items : (gives : Gives) (start y : Ends) (left : Option (List ℕ)) (reader : ReaderData) (w : HasWalked gives start y reader)
    → ReadsWithin (Some reader.session) reader.records reader.offset y.input.left left [] → ReadsItems (Some reader.session) w.list start.input.left left
reads_items gives start y left reader w q = record {
  front = w.bytes;
  begun = q.bytes;
  records = w.stands.read;
  read = IsRead-after start.input.left y.input.left left w.bytes q.bytes w.read q.read;
  within = subst (λ (count : ℕ). length q.bytes ≤ room_of (Some reader.session) count q.bytes) w.stands.records q.within;
  none = subst (λ (at : ℕ). HasNoRecord (Some reader.session) at q.bytes) w.stands.offset q.none;
}

-- the input has ended
pub WalksToEnd-ended : (gives : Gives) (start y : Ends) (z : InputState) (reader reader' : ReaderData) → HasWalked gives start y reader
    → GivesEnd y.input z reader reader' → WalksToEnd gives start (with_input y z)
WalksToEnd-ended gives start y z reader reader' w g =
    let left = g.nothing_left w.is_open.not_ended in
    record {
      session = reader.session;
      list = w.list;
      input = w.bytes;
      told = IsTold-read start.input.left y.input.left w.bytes w.read left;
      file = w.stands.read;
      reads = reads_items gives start y z.left reader w
          (ReadsWithin-nothing (Some reader.session) reader.records reader.offset y.input.left z.left g.nothing_read);
      end = still_ended y.input.left z.left left g.nothing_read;
      no_fault = g.no_fault ∙ w.no_fault;
      given = w.given;
    }

-- ---- the input is not read any further

-- a reader that is open answers no refusal again
or_new : {X : Type 0} {y z : InputState} {reader reader' : ReaderData} {end : ReadEnd} → IsOpen reader → RefusesAgain y z reader reader' end ⊎ X → X
or_new o (inl r) = cc (o.not_refused, r.refused)
or_new o (inr x) = x

to_refusal : (gives : Gives) (start y : Ends) (z : InputState) (reader reader' : ReaderData) (end : ReadEnd) → HasWalked gives start y reader
    → RefusesInput y.input z reader reader' end → IsOfEnding (refusal_status end) → WalksToRefusal gives start (with_input y z) end
to_refusal gives start y z reader reader' end w r of_input = record {
  session = Some reader.session;
  list = w.list;
  input = w.bytes ++ r.left;
  told = IsTold-after start.input.left y.input.left w.bytes r.left w.read r.told;
  reading = r.is_refused w.bytes w.list w.stands;
  of_input = of_input;
  reads = reads_items gives start y z.left reader w r.read;
  no_fault = r.no_fault ∙ w.no_fault;
  given = w.given;
}

to_stop : (gives : Gives) (start y : Ends) (z : InputState) (reader : ReaderData) (stop : Stop) → HasWalked gives start y reader
    → ReadsWithin (Some reader.session) reader.records reader.offset y.input.left z.left [] → ReadingStops stop start.input.faults z.faults
    → WalksToStop gives start (with_input y z) stop
to_stop gives start y z reader stop w q faults = record {
  session = Some reader.session;
  list = w.list;
  reads = reads_items gives start y z.left reader w q;
  faults = faults;
  given = w.given;
}

refused_as : (gives : Gives) (start y : Ends) (z : InputState) (reader reader' : ReaderData) (end : ReadEnd) → HasWalked gives start y reader
    → Refuses y.input z reader reader' end → WalksAs gives start (with_input y z) (ending_of end)
refused_as gives start y z reader reader' ends.Memory w r =
    let q = or_new w.is_open r in inr (to_stop gives start y z reader stops.Memory w q.read (q.no_fault ∙ w.no_fault))
refused_as gives start y z reader reader' ends.ReadFault w r =
    let q = or_new w.is_open r in
    inr (to_stop gives start y z reader stops.ReadFault w q.read (subst (λ (n : ℕ). Rose n z.faults) w.no_fault q.fault))
refused_as gives start y z reader reader' ends.NoHeader w r = to_refusal gives start y z reader reader' ends.NoHeader w (or_new w.is_open r) tt
refused_as gives start y z reader reader' (ends.BadHeader field) w r =
    to_refusal gives start y z reader reader' (ends.BadHeader field) w (or_new w.is_open r) tt
refused_as gives start y z reader reader' (ends.BadTag at byte) w r =
    to_refusal gives start y z reader reader' (ends.BadTag at byte) w (or_new w.is_open r) tt
refused_as gives start y z reader reader' (ends.OtherSession at) w r =
    to_refusal gives start y z reader reader' (ends.OtherSession at) w (or_new w.is_open r) tt
refused_as gives start y z reader reader' (ends.Truncated at) w r =
    to_refusal gives start y z reader reader' (ends.Truncated at) w (or_new w.is_open r) tt
refused_as gives start y z reader reader' ends.TooManyRecords w r =
    to_refusal gives start y z reader reader' ends.TooManyRecords w (or_new w.is_open r) tt

-- the reading of the next record ended so
pub Walks-refused : (gives : Gives) (start y : Ends) (z : InputState) (reader reader' : ReaderData) (end : ReadEnd) (result : Result WalkEnd Stop)
    → result ≡ ending_of end → HasWalked gives start y reader → Refuses y.input z reader reader' end → Walks gives start (with_input y z) result
Walks-refused gives start y z reader reader' end result e w r =
    subst (λ (answer : Result WalkEnd Stop). Walks gives start (with_input y z) answer) (sym e)
    (record { as_far = refused_as gives start y z reader reader' end w r })

-- ---- no header was read

unopened_items : (start : InputState) (left : Option (List ℕ)) → ReadsWithin None 0 0 start.left left [] → ReadsItems None [] start.left left
unopened_items start left q = record {
  front = [];
  begun = q.bytes;
  records = (refl, refl);
  read = q.read;
  within = q.within;
  none = q.none;
}

unopened_refusal : (gives : Gives) (start : Ends) (z : InputState) (end : ReadEnd) → Begins gives start.output → StopsFirst start.input z [] end
    → IsOfEnding (refusal_status end) → WalksToRefusal gives start (with_input start z) end
unopened_refusal gives start z end begins s of_input = record {
  session = None;
  list = [];
  input = s.left;
  told = s.told;
  reading = (refl, s.refused);
  of_input = of_input;
  reads = unopened_items start.input z.left s.read;
  no_fault = s.no_fault;
  given = begins;
}

unopened_as : (gives : Gives) (start : Ends) (z : InputState) (end : ReadEnd) → Begins gives start.output → FirstStops start.input z [] end
    → WalksAs gives start (with_input start z) (ending_of end)
unopened_as gives start z ends.Memory begins s = absurd s
unopened_as gives start z ends.ReadFault begins s = inr (record {
  session = None;
  list = [];
  reads = unopened_items start.input z.left s.read;
  faults = s.fault;
  given = begins;
})
unopened_as gives start z ends.NoHeader begins s = unopened_refusal gives start z ends.NoHeader begins s tt
unopened_as gives start z (ends.BadHeader field) begins s = unopened_refusal gives start z (ends.BadHeader field) begins s tt
unopened_as gives start z (ends.BadTag at byte) begins s = unopened_refusal gives start z (ends.BadTag at byte) begins s tt
unopened_as gives start z (ends.OtherSession at) begins s = unopened_refusal gives start z (ends.OtherSession at) begins s tt
unopened_as gives start z (ends.Truncated at) begins s = unopened_refusal gives start z (ends.Truncated at) begins s tt
unopened_as gives start z ends.TooManyRecords begins s = unopened_refusal gives start z ends.TooManyRecords begins s tt

-- no item was given, and nothing was written
pub Walks-unopened : (gives : Gives) (start : Ends) (z : InputState) (end : ReadEnd) (result : Result WalkEnd Stop) → result ≡ ending_of end
    → Begins gives start.output → FirstStops start.input z [] end → Walks gives start (with_input start z) result
Walks-unopened gives start z end result e begins s =
    subst (λ (answer : Result WalkEnd Stop). Walks gives start (with_input start z) answer) (sym e)
    (record { as_far = unopened_as gives start z end begins s })
