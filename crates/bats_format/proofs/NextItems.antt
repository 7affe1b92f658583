-- What the next answer of a reader is, from what was read.
use Rattle.std.proofs.Common.{◌≡◌, ℕ, ◌+◌, ◌<◌, inl, inr, false, List, [], ◌∷◌, ◌++◌, length, None, Some, refl, sym, subst, ◌∙◌, arith, length-append}
use Rattle.bats_io.specs.Streams.{InputState, IsRead}
use Rattle.bats_model.specs.Session.{SessionData, IsSession}
use Rattle.bats_model.specs.Records.{header_record}
use Rattle.bats_model.specs.PacketFile.{IsItemAt, record_of, most_records}
use Rattle.bats_model.specs.Refusal.{RefusesRecord, first_refusal}
use Rattle.bats_model.specs.declared.item.Item.{Item}
use Rattle.bats_model.specs.declared.item.Item.TheVariants as items
use Rattle.bats_model.specs.declared.read_end.ReadEnd.{ReadEnd}
use Rattle.bats_model.specs.declared.read_end.ReadEnd.TheVariants as ends
use Rattle.bats_format.specs.Reader.{ReaderData, StandsFor, IsOpen, OpensAt, GivesItem, RefusesInput, Refuses}
use Rattle.bats_format.specs.Taking.{TakesHeader, IsStop, StopsAt, StopCause, Stops, TakesNext}
use Rattle.bats_format.proofs.RecordLemmas.{length-header_record}
use Rattle.bats_format.proofs.PacketFiles.{IsPacketFile-more, IsPacketFile-header}
use Rattle.bats_format.proofs.Refusals.{longest_front}

-- ---- readers

-- a reader that goes on
abbrev pub going : SessionData → ℕ → ℕ → ReaderData
going session records offset = record { session = session; records = records; offset = offset; ended = false; refused = None }

open_going : (session : SessionData) (records offset : ℕ) → IsOpen (going session records offset)
open_going session records offset = record { not_ended = refl; not_refused = refl }

same_reader : (a b : ReaderData) → a.session ≡ b.session → a.records ≡ b.records → a.offset ≡ b.offset → a.ended ≡ b.ended → a.refused ≡ b.refused → a ≡ b
same_reader a b session records offset ended refused =
    λ i. record { session = session i; records = records i; offset = offset i; ended = ended i; refused = refused i }

-- a reader that is open, by its fields
pub going-now : (fields reader : ReaderData) → fields ≡ reader → fields.ended ≡ false → fields.refused ≡ None
    → reader ≡ going fields.session fields.records fields.offset
going-now fields reader e ended refused =
    sym e ∙ same_reader fields (going fields.session fields.records fields.offset) refl refl refl ended refused

-- and one with the same flags
pub going-like : (fields changed : ReaderData) → fields.ended ≡ false → fields.refused ≡ None → changed.session ≡ fields.session
    → changed.ended ≡ fields.ended → changed.refused ≡ fields.refused → changed ≡ going fields.session changed.records changed.offset
going-like fields changed still none session ended refused =
    same_reader changed (going fields.session changed.records changed.offset) session refl refl (ended ∙ still) (refused ∙ none)

pub going-refused : (fields changed : ReaderData) (end : ReadEnd) → fields.ended ≡ false
    → changed ≡ record fields { refused = Some end } → changed ≡ record (going fields.session fields.records fields.offset) { refused = Some end }
going-refused fields changed end still same =
    same ∙ same_reader (record fields { refused = Some end }) (record (going fields.session fields.records fields.offset) { refused = Some end })
    refl refl refl still refl

-- ---- the first header

first_stands : (session : SessionData) → IsSession session → StandsFor (header_record session) (items.Header 0 ∷ []) (going session 1 32)
first_stands session h = record {
  read = IsPacketFile-header session h;
  records = refl;
  offset = sym (length-header_record session h);
}

pub OpensAt-first : {before after : InputState} {session : SessionData} → TakesHeader before after [] session
    → OpensAt before after (going session 1 32)
OpensAt-first {before} {after} {session} t = record {
  is_open = open_going session 1 32;
  taken = subst (λ (bytes : List ℕ). IsRead before.left after.left bytes) t.header t.taken;
  no_fault = t.no_fault;
  stands = first_stands session t.is_session;
}

-- ---- a later record

next_stands : (session : SessionData) (records offset size : ℕ) (item : Item) (bytes : List ℕ) (list : List Item) → IsItemAt session offset item
    → records < most_records → size ≡ length (record_of session item) → StandsFor bytes list (going session records offset)
    → StandsFor (bytes ++ record_of session item) (list ++ item ∷ []) (going session (records + 1) (offset + size))
next_stands session records offset size item bytes list place few size_is s = record {
  read = IsPacketFile-more session list bytes item s.read (subst (λ (at : ℕ). IsItemAt session at item) s.offset place) (omega (arith, s.records));
  records = omega (arith, s.records, length-append list (item ∷ []));
  offset = omega (arith, s.offset, length-append bytes (record_of session item));
}

gives_next : (before after : InputState) (session : SessionData) (records offset size : ℕ) (item : Item)
    → size ≡ length (record_of session item) → TakesNext before after session records offset item
    → GivesItem before after (going session records offset) (going session (records + 1) (offset + size)) item
gives_next before after session records offset size item size_is t = record {
  was_open = open_going session records offset;
  is_open = open_going session (records + 1) (offset + size);
  same_session = refl;
  place = t.item_is.place;
  counted = refl;
  few = omega (arith, t.few);
  taken = subst (λ (bytes : List ℕ). IsRead before.left after.left bytes) t.item_is.record_is t.item_is.taken;
  no_fault = t.item_is.no_fault;
  stands = λ bytes list s. next_stands session records offset size item bytes list t.item_is.place t.few size_is s;
}

pub GivesItem-next : {before after : InputState} {session : SessionData} {records offset : ℕ} {item : Item} {reader reader' : ReaderData} (size : ℕ)
    → reader ≡ going session records offset → reader' ≡ going session (records + 1) (offset + size)
    → size ≡ length (record_of session item) → TakesNext before after session records offset item → GivesItem before after reader reader' item
GivesItem-next {before} {after} {session} {records} {offset} {item} {reader} {reader'} size e e' size_is t =
    subst (λ (r : ReaderData). GivesItem before after r reader' item) (sym e)
    (subst (λ (r : ReaderData). GivesItem before after (going session records offset) r item) (sym e')
    (gives_next before after session records offset size item size_is t))

-- ---- refusals

refused_after : (session : SessionData) (records offset : ℕ) (left bytes : List ℕ) (list : List Item) (end : ReadEnd)
    → IsStop session records offset left end → StandsFor bytes list (going session records offset)
    → RefusesRecord (bytes ++ left) session list end
refused_after session records offset left bytes list end stop s = record {
  front = bytes;
  rest = left;
  longest = longest_front (bytes ++ left) session list bytes left (record { file = s.read; split = refl })
      (λ next. stop.none next.item next.more (subst (λ (at : ℕ). IsItemAt session at next.item) (sym s.offset) next.place) next.split
      (omega (arith, next.few, s.records)));
  refusal = subst (λ (count : ℕ). first_refusal (length bytes) count left ≡ Some end) s.records
      (subst (λ (at : ℕ). first_refusal at records left ≡ Some end) s.offset stop.refusal);
}

refuses_input : (before after : InputState) (session : SessionData) (records offset : ℕ) (end : ReadEnd)
    → StopsAt before after session records offset [] end
    → RefusesInput before after (going session records offset) (record (going session records offset) { refused = Some end }) end
refuses_input before after session records offset end s = record {
  was_open = open_going session records offset;
  refused = refl;
  left = s.left;
  told = s.told;
  is_refused = λ bytes list h. refused_after session records offset s.left bytes list end s.stop h;
  read = s.read;
  size = s.size;
  no_fault = s.no_fault;
}

refuses_record : (before after : InputState) (session : SessionData) (records offset : ℕ) (end : ReadEnd)
    → StopCause before after session records offset [] end
    → Refuses before after (going session records offset) (record (going session records offset) { refused = Some end }) end
refuses_record before after session records offset ends.Memory s =
    inr (record {
      was_open = open_going session records offset;
      refused = refl;
      read = s.read;
      no_fault = s.no_fault;
    })
refuses_record before after session records offset ends.ReadFault s =
    inr (record {
      was_open = open_going session records offset;
      refused = refl;
      fault = s.fault;
      read = s.read;
    })
refuses_record before after session records offset ends.NoHeader s = inr (refuses_input before after session records offset _ s)
refuses_record before after session records offset (ends.BadHeader field) s = inr (refuses_input before after session records offset _ s)
refuses_record before after session records offset (ends.BadTag at byte) s = inr (refuses_input before after session records offset _ s)
refuses_record before after session records offset (ends.OtherSession at) s = inr (refuses_input before after session records offset _ s)
refuses_record before after session records offset (ends.Truncated at) s = inr (refuses_input before after session records offset _ s)
refuses_record before after session records offset ends.TooManyRecords s = inr (refuses_input before after session records offset _ s)

pub Refuses-record : (before after : InputState) (session : SessionData) (records offset : ℕ) (reader reader' : ReaderData) (end : ReadEnd)
    → reader ≡ going session records offset → reader' ≡ record (going session records offset) { refused = Some end }
    → Stops before after session records offset [] end → Refuses before after reader reader' end
Refuses-record before after session records offset reader reader' end e e' s =
    subst (λ (r : ReaderData). Refuses before after r reader' end) (sym e)
    (subst (λ (r : ReaderData). Refuses before after (going session records offset) r end) (sym e')
    (refuses_record before after session records offset end s.cause))

-- a refusal that was answered before
pub Refuses-again : (input : InputState) (reader : ReaderData) (end : ReadEnd) → reader.refused ≡ Some end
    → Refuses input input reader reader end
Refuses-again input reader ends.Memory e = inl (record { refused = e; same = refl; nothing_read = refl })
Refuses-again input reader ends.ReadFault e = inl (record { refused = e; same = refl; nothing_read = refl })
Refuses-again input reader ends.NoHeader e = inl (record { refused = e; same = refl; nothing_read = refl })
Refuses-again input reader (ends.BadHeader field) e = inl (record { refused = e; same = refl; nothing_read = refl })
Refuses-again input reader (ends.BadTag at byte) e = inl (record { refused = e; same = refl; nothing_read = refl })
Refuses-again input reader (ends.OtherSession at) e = inl (record { refused = e; same = refl; nothing_read = refl })
Refuses-again input reader (ends.Truncated at) e = inl (record { refused = e; same = refl; nothing_read = refl })
Refuses-again input reader ends.TooManyRecords e = inl (record { refused = e; same = refl; nothing_read = refl })
