-- How far a command has read whose walk ended so.
use Rattle.std.proofs.Common.{ℕ, ◌≡◌, ◌≤◌, false, List, [], ◌∷◌, ◌++◌, length, Option, None, Some, IsSome, arith, refl, sym, ap, ◌∙◌, subst, append-nil, append_assoc, length-append}
use Rattle.bats_io.specs.Streams.{IsTold, IsRead}
use Rattle.bats_io.proofs.ReadLemmas.{IsRead-nothing, IsTold-after, told_or, IsTold-told_or}
use Rattle.bats_model.specs.Session.{SessionData, IsSession}
use Rattle.bats_model.specs.Records.{header_record}
use Rattle.bats_model.specs.PacketFile.{IsItemAt, BeginsWithHeader, record_of}
use Rattle.bats_model.specs.declared.item.Item.{Item}
use Rattle.bats_model.specs.declared.item.Item.TheVariants as items
use Rattle.bats_format.specs.Taking.{room_of}
use Rattle.bats_format.proofs.RecordLemmas.{same_items, same_headers, length-header_record, header_record-begins}
use Rattle.tool_records.specs.ReadsRecords.{ReadsRecords}
use Rattle.tool_records.specs.Walk.{AreRecords, ReadsItems, ReadsLast}
use Rattle.tool_records.proofs.RecordsRead.{reads_as_far, none_empty, record_of-within}

-- ---- what an input tells of which so much was read

pub told_items : {session : Option SessionData} {list : List Item} {before after : Option (List ℕ)} (q : ReadsItems session list before after)
    → (rest : List ℕ) × IsTold before (q.front ++ rest)
told_items {session} {list} {before} {after} q =
    let left : List ℕ = told_or after [] in (
      q.begun ++ left,
      subst (λ (bytes : List ℕ). IsTold before bytes) (append_assoc q.front q.begun left)
          (IsTold-after before after (q.front ++ q.begun) left q.read (IsTold-told_or after [])),
    )

pub told_last : {session : SessionData} {list : List Item} {item : Item} {before after : Option (List ℕ)} (q : ReadsLast session list item before after)
    → (rest : List ℕ) × IsTold before ((q.front ++ record_of session item) ++ rest)
told_last {session} {list} {item} {before} {after} q =
    (told_or after [], IsTold-after before after (q.front ++ record_of session item) (told_or after []) q.read (IsTold-told_or after []))

-- before the first header, what holds of every session holds of this one
abbrev pub any_session : SessionData
any_session = record { m = 0; t = 0; file_length = 0; table = 0; systematic = false; seed = [] }

-- ---- the last of the items

-- items with one more are so in one way
pub same_last : (list others : List Item) (item other : Item) → list ++ item ∷ [] ≡ others ++ other ∷ [] → (list ≡ others) × (item ≡ other)
same_last [] [] item other e = (refl, cc)
same_last [] (x ∷ []) item other e = cc
same_last [] (x ∷ (y ∷ others)) item other e = cc
same_last (x ∷ []) [] item other e = cc
same_last (x ∷ (y ∷ list)) [] item other e = cc
same_last (x ∷ list) (y ∷ others) item other e =
    let head : x ≡ y = cc in
    let tail : list ++ item ∷ [] ≡ others ++ other ∷ [] = cc in
    let rest = same_last list others item other tail in
    (cc, rest.1)

-- ---- how far a command reads

-- the records of items after which it goes on, and then no whole one
unfoldable pub ReadsRecords-items : (goes_on : List Item → Type 0) (session : Option SessionData) (list : List Item) (before after : Option (List ℕ))
    → goes_on list → ReadsItems session list before after → ReadsRecords goes_on before after
ReadsRecords-items goes_on session list before after on q = record {
  session = session;
  list = list;
  front = q.front;
  begun = q.begun;
  read = q.read;
  within = q.within;
  as_far = reads_as_far goes_on session list q.front q.begun on q.records q.none;
}

-- nothing, before the first header
pub ReadsRecords-nothing : (goes_on : List Item → Type 0) (left : Option (List ℕ)) → ReadsRecords goes_on left left
ReadsRecords-nothing goes_on left = record {
  session = None;
  list = [];
  front = [];
  begun = [];
  read = IsRead-nothing left;
  within = omega arith;
  as_far = (refl, refl, λ session more is same. absurd (none_empty None 0 session more is same));
}

-- and one more after which it goes on
pub ReadsRecords-item : (goes_on : List Item → Type 0) (session : SessionData) (list : List Item) (item : Item) (before after : Option (List ℕ))
    → goes_on (list ++ item ∷ []) → ReadsLast session list item before after → ReadsRecords goes_on before after
ReadsRecords-item goes_on session list item before after on q =
    let front : List ℕ = q.front ++ record_of session item in
    record {
      session = Some session;
      list = list ++ item ∷ [];
      front = front;
      begun = [];
      read = subst (λ (bytes : List ℕ). IsRead before after bytes) (sym (append-nil front)) q.read;
      within = omega arith;
      as_far = reads_as_far goes_on (Some session) (list ++ item ∷ []) front [] on q.file (none_empty (Some session) (length front));
    }

-- the first record is a header: it goes no further than one
within_first : (session : SessionData) (list : List Item) (item : Item) → list ≡ [] → BeginsWithHeader (list ++ item ∷ []) → IsSession session
    → length (record_of session item) ≤ room_of None (length list) (record_of session item)
unfolding record_of
within_first session [] (items.Header at) none header is =
    let begins = header_record-begins session in
    subst (λ (bytes : List ℕ). length bytes ≤ room_of None 0 bytes) (sym begins)
    (omega (arith, ap length begins, length-header_record session is))
within_first session [] (items.Packet at packet) none header is = absurd header
within_first session (x ∷ list) item none header is = cc

-- and no other header stands there
first_stops : (goes_on : List Item → Type 0) (session : SessionData) (list : List Item) (item : Item) (front : List ℕ)
    → front ≡ [] → list ≡ [] → IsItemAt session (length front) item → BeginsWithHeader (list ++ item ∷ []) → IsSession session
    → ¬ goes_on (list ++ item ∷ []) → (other : SessionData) (more : List ℕ) → IsSession other
    → record_of session item ≡ header_record other ++ more → (more ≡ []) × ¬ goes_on (items.Header 0 ∷ [])
unfolding record_of
first_stops goes_on session [] (items.Header at) front empty none place header is stops = λ other more is_other same.
    let one = same_headers session other [] more is is_other (append-nil (header_record session) ∙ same) in
    (sym one.rest, subst (λ (n : ℕ). ¬ goes_on (items.Header n ∷ [])) (place ∙ ap length empty) stops)
first_stops goes_on session [] (items.Packet at packet) front empty none place header is stops = absurd header
first_stops goes_on session (x ∷ list) item front empty none place header is stops = cc

-- one more, at which it stops
reads_last : (goes_on : List Item → Type 0) (known : Option SessionData) (session : SessionData) (list : List Item) (item : Item) (before after : Option (List ℕ))
    → (q : ReadsLast session list item before after) → q.known ≡ known → goes_on list → ¬ goes_on (list ++ item ∷ [])
    → ReadsRecords goes_on before after
reads_last goes_on None session list item before after q e on stops =
    let records : AreRecords None list q.front = subst (λ (s : Option SessionData). AreRecords s list q.front) e q.records in
    record {
      session = None;
      list = list;
      front = q.front;
      begun = record_of session item;
      read = q.read;
      within = within_first session list item records.1 q.file.header q.file.is_session;
      as_far = (
        records.1,
        records.0,
        first_stops goes_on session list item q.front records.0 records.1 q.place q.file.header q.file.is_session stops,
      );
    }
reads_last goes_on (Some other) session list item before after q e on stops =
    let known : q.known ≡ Some session = q.same (subst IsSome (sym e) refl) in
    let records : AreRecords (Some session) list q.front = subst (λ (s : Option SessionData). AreRecords s list q.front) known q.records in
    record {
      session = Some session;
      list = list;
      front = q.front;
      begun = record_of session item;
      read = q.read;
      within = record_of-within session (length list) (length q.front) item (omega (arith, q.file.few, length-append list (item ∷ [])))
          q.file.is_session q.place;
      as_far = (
        records,
        on,
        λ next more place same.
            let one = same_items session (length q.front) item next [] more q.place place (append-nil (record_of session item) ∙ same) in
            (sym one.rest, subst (λ (i : Item). ¬ goes_on (list ++ i ∷ [])) one.same stops),
      );
    }

-- and then exactly the record at which it stops
pub ReadsRecords-last : (goes_on : List Item → Type 0) (session : SessionData) (list : List Item) (item : Item) (before after : Option (List ℕ))
    → goes_on list → ¬ goes_on (list ++ item ∷ []) → ReadsLast session list item before after → ReadsRecords goes_on before after
ReadsRecords-last goes_on session list item before after on stops q = reads_last goes_on q.known session list item before after q refl on stops
