-- Packet files: how they grow, and that what begins with one goes on by whole records.
use Rattle.std.proofs.Common.{ℕ, inl, inr, ◌≡◌, ◌+◌, ◌<◌, ◌≤◌, ◌∙◌, sym, ap, refl, subst, List, [], ◌∷◌, ◌++◌, length, append_assoc, append-nil, arith}
use Rattle.std.specs.List.{flat_map}
use Rattle.std.proofs.lemmas.Bool.{cases_lt}
use Rattle.std.proofs.lemmas.List.{length-append, append_cancel_left}
use Rattle.std.proofs.lemmas.List.Concat.{flat_map-append}
use Rattle.bats_model.specs.Session.{SessionData, IsSession}
use Rattle.bats_model.specs.Records.{header_record}
use Rattle.bats_model.specs.PacketFile.{IsPacketFile, IsItemAt, AreItemsFrom, BeginsWithHeader, record_of, most_records}
use Rattle.bats_model.specs.declared.item.Item.{Item}
use Rattle.bats_model.specs.declared.item.Item.TheVariants as items
use Rattle.bats_format.proofs.RecordLemmas.{same_parts, same_headers, same_items, record_of-some}

-- the bytes of the items' records
abbrev pub records_of : SessionData → List Item → List ℕ
records_of session list = flat_map (record_of session) list

-- ---- items in two parts

next_offset : (session : SessionData) (offset : ℕ) (item : Item) (list : List Item)
    → offset + length (records_of session (item ∷ list)) ≡ (offset + length (record_of session item)) + length (records_of session list)
next_offset session offset item list = omega (arith, length-append (record_of session item) (records_of session list))

pub AreItemsFrom-append : (session : SessionData) (offset : ℕ) (list more : List Item) → AreItemsFrom session offset list
    → AreItemsFrom session (offset + length (records_of session list)) more → AreItemsFrom session offset (list ++ more)
unfolding AreItemsFrom
AreItemsFrom-append session offset [] more h k = subst (λ (n : ℕ). AreItemsFrom session n more) (omega arith) k
AreItemsFrom-append session offset (item ∷ list) more h k = (
  h.0,
  AreItemsFrom-append session (offset + length (record_of session item)) list more h.1
      (subst (λ (n : ℕ). AreItemsFrom session n more) (next_offset session offset item list) k),
)

pub AreItemsFrom-front : (session : SessionData) (offset : ℕ) (list more : List Item) → AreItemsFrom session offset (list ++ more)
    → AreItemsFrom session offset list
unfolding AreItemsFrom
AreItemsFrom-front session offset [] more h = tt
AreItemsFrom-front session offset (item ∷ list) more h =
    (h.0, AreItemsFrom-front session (offset + length (record_of session item)) list more h.1)

pub AreItemsFrom-rest : (session : SessionData) (offset : ℕ) (list more : List Item) → AreItemsFrom session offset (list ++ more)
    → AreItemsFrom session (offset + length (records_of session list)) more
unfolding AreItemsFrom
AreItemsFrom-rest session offset [] more h = subst (λ (n : ℕ). AreItemsFrom session n more) (omega arith) h
AreItemsFrom-rest session offset (item ∷ list) more h =
    subst (λ (n : ℕ). AreItemsFrom session n more) (sym (next_offset session offset item list))
    (AreItemsFrom-rest session (offset + length (record_of session item)) list more h.1)

-- ---- a file grows

pub begins-more : (list more : List Item) → BeginsWithHeader list → BeginsWithHeader (list ++ more)
begins-more [] more h = absurd h
begins-more (items.Header at ∷ list) more h = tt
begins-more (items.Packet at packet ∷ list) more h = absurd h

records_of-one : (session : SessionData) (item : Item) → records_of session (item ∷ []) ≡ record_of session item
records_of-one session item = append-nil (record_of session item)

-- one more item of the session, at the end of the bytes
pub IsPacketFile-more : (session : SessionData) (list : List Item) (bytes : List ℕ) (item : Item) → IsPacketFile session list bytes
    → IsItemAt session (length bytes) item → length list < most_records
    → IsPacketFile session (list ++ item ∷ []) (bytes ++ record_of session item)
unfolding AreItemsFrom
IsPacketFile-more session list bytes item h place few =
    let offset : length bytes ≡ 0 + length (records_of session list) = omega (arith, ap length h.records) in
    record {
      is_session = h.is_session;
      header = begins-more list (item ∷ []) h.header;
      places = AreItemsFrom-append session 0 list (item ∷ []) h.places (subst (λ (n : ℕ). IsItemAt session n item) offset place, tt);
      few = omega (arith, length-append list (item ∷ []));
      records = ap (λ (b : List ℕ). b ++ record_of session item) h.records
          ∙ ap (λ (b : List ℕ). records_of session list ++ b) (sym (records_of-one session item))
          ∙ sym (flat_map-append (record_of session) list (item ∷ []));
    }

-- the header alone
pub IsPacketFile-header : (session : SessionData) → IsSession session → IsPacketFile session (items.Header 0 ∷ []) (header_record session)
unfolding AreItemsFrom record_of
IsPacketFile-header session h = record {
  is_session = h;
  header = tt;
  places = (refl, tt);
  few = omega arith;
  records = sym (append-nil (header_record session));
}

-- ---- what begins with a packet file

-- the other items are these and further ones, whose records are at the front of what is left
pub record GoOn (session : SessionData) (offset : ℕ) (list others : List Item) (rest after : List ℕ) : Type 0 where
  pub further : List Item
  pub items : others ≡ list ++ further
  pub records : rest ≡ records_of session further ++ after
  pub places : AreItemsFrom session (offset + length (records_of session list)) further

GoOn-none : (session : SessionData) (offset : ℕ) (others : List Item) (rest after : List ℕ) → AreItemsFrom session offset others
    → rest ≡ records_of session others ++ after → GoOn session offset [] others rest after
GoOn-none session offset others rest after h e = record {
  further = others;
  items = refl;
  records = e;
  places = subst (λ (n : ℕ). AreItemsFrom session n others) (omega arith) h;
}

GoOn-more : (session : SessionData) (offset : ℕ) (item other : Item) (list others : List Item) (rest after : List ℕ) → item ≡ other
    → GoOn session (offset + length (record_of session item)) list others rest after
    → GoOn session offset (item ∷ list) (other ∷ others) rest after
GoOn-more session offset item other list others rest after e g = record {
  further = g.further;
  items = cc (g.items);
  records = g.records;
  places = subst (λ (n : ℕ). AreItemsFrom session n g.further) (sym (next_offset session offset item list)) g.places;
}

-- the records of one item more, before other bytes
pub records_of-cons : (session : SessionData) (item : Item) (list : List Item) (x : List ℕ)
    → records_of session (item ∷ list) ++ x ≡ record_of session item ++ (records_of session list ++ x)
records_of-cons session item list x = append_assoc (record_of session item) (records_of session list) x

-- items at one offset in the same bytes are alike as far as both go
go_on : (session : SessionData) (offset : ℕ) (list others : List Item) (rest after : List ℕ)
    → AreItemsFrom session offset list → AreItemsFrom session offset others
    → records_of session list ++ rest ≡ records_of session others ++ after
    → length (records_of session list) ≤ length (records_of session others) → GoOn session offset list others rest after
unfolding AreItemsFrom
go_on session offset [] others rest after h k e l = GoOn-none session offset others rest after k e
go_on session offset (item ∷ list) [] rest after h k e l =
    absurd (omega (arith, record_of-some session item, length-append (record_of session item) (records_of session list)))
go_on session offset (item ∷ list) (other ∷ others) rest after h k e l =
    let same = same_items session offset item other _ _ h.0 k.0 (sym (records_of-cons session item list rest) ∙ e ∙ records_of-cons session other others after) in
    let size : length (record_of session item) ≡ length (record_of session other) = ap (λ (i : Item). length (record_of session i)) same.same in
    GoOn-more session offset item other list others rest after same.same
    (go_on session (offset + length (record_of session item)) list others rest after h.1
    (subst (λ (n : ℕ). AreItemsFrom session (offset + n) others) (sym size) k.1) same.rest
    (omega (arith, length-append (record_of session item) (records_of session list), length-append (record_of session other) (records_of session others))))

-- a packet file begins with its header
pub begins_with_header : (session : SessionData) (list : List Item) → BeginsWithHeader list → (more : List ℕ) × (records_of session list ≡ header_record session ++ more)
unfolding record_of
begins_with_header session [] h = absurd h
begins_with_header session (items.Header at ∷ list) h = (records_of session list, refl)
begins_with_header session (items.Packet at packet ∷ list) h = absurd h

pub file_begins : (session : SessionData) (list : List Item) (front rest : List ℕ) → IsPacketFile session list front
    → (more : List ℕ) × (front ++ rest ≡ header_record session ++ more)
file_begins session list front rest h =
    let b = begins_with_header session list h.header in
    (b.0 ++ rest, ap (λ (x : List ℕ). x ++ rest) (h.records ∙ b.1) ∙ append_assoc (header_record session) b.0 rest)

-- the sessions of packet files at the front of the same bytes are the same
pub same_sessions : (session other : SessionData) (list others : List Item) (front rest begin after : List ℕ)
    → IsPacketFile session list front → IsPacketFile other others begin → front ++ rest ≡ begin ++ after → session ≡ other
same_sessions session other list others front rest begin after h k e =
    let b = file_begins session list front rest h in
    let c = file_begins other others begin after k in
    (same_headers session other b.0 c.0 h.is_session k.is_session (sym b.1 ∙ e ∙ c.1)).session

pub record IsFurther (session other : SessionData) (list others : List Item) (front rest after : List ℕ) : Type 0 where
  pub same_session : session ≡ other
  pub further : List Item
  pub items : others ≡ list ++ further
  pub records : rest ≡ records_of session further ++ after
  pub places : AreItemsFrom session (length front) further

further_of : (session : SessionData) (list others : List Item) (front rest begin after : List ℕ)
    → IsPacketFile session list front → IsPacketFile session others begin → front ++ rest ≡ begin ++ after
    → length front ≤ length begin → IsFurther session session list others front rest after
further_of session list others front rest begin after h k e l =
    let joined : records_of session list ++ rest ≡ records_of session others ++ after =
    ap (λ (x : List ℕ). x ++ rest) (sym h.records) ∙ e ∙ ap (λ (x : List ℕ). x ++ after) k.records in
    let g = go_on session 0 list others rest after h.places k.places joined (omega (arith, ap length h.records, ap length k.records)) in
    record {
      same_session = refl;
      further = g.further;
      items = g.items;
      records = g.records;
      places = subst (λ (n : ℕ). AreItemsFrom session n g.further) (omega (arith, ap length h.records)) g.places;
    }

-- of two packet files at the front of the same bytes the longer one has the items of the shorter, and further ones
pub further_items : (session other : SessionData) (list others : List Item) (front rest begin after : List ℕ)
    → IsPacketFile session list front → IsPacketFile other others begin → front ++ rest ≡ begin ++ after
    → length front ≤ length begin → IsFurther session other list others front rest after
further_items session other list others front rest begin after h k e l =
    let same = same_sessions session other list others front rest begin after h k e in
    let k' : IsPacketFile session others begin = subst (λ (s : SessionData). IsPacketFile s others begin) (sym same) k in
    subst (λ (s : SessionData). IsFurther session s list others front rest after) same
    (further_of session list others front rest begin after h k' e l)

-- the record that is at the front of what is left
pub record NextRecord (session : SessionData) (list : List Item) (front rest : List ℕ) : Type 0 where
  pub item : Item
  pub more : List ℕ
  pub place : IsItemAt session (length front) item
  pub split : rest ≡ record_of session item ++ more
  pub few : length list < most_records

next_record : (session other : SessionData) (list others : List Item) (front rest begin after : List ℕ) (further : List Item)
    → IsPacketFile session list front → IsPacketFile other others begin → length front < length begin → session ≡ other
    → others ≡ list ++ further → rest ≡ records_of session further ++ after → AreItemsFrom session (length front) further
    → NextRecord session list front rest
unfolding AreItemsFrom
next_record session other list others front rest begin after [] h k l s i r p =
    let same : list ≡ others = sym (append-nil list) ∙ sym i in
    let bytes : front ≡ begin = h.records ∙ ap (records_of session) same ∙ ap (λ (x : SessionData). records_of x others) s ∙ sym k.records in
    absurd (omega (arith, ap length bytes))
next_record session other list others front rest begin after (item ∷ further) h k l s i r p = record {
  item = item;
  more = records_of session further ++ after;
  place = p.0;
  split = r ∙ records_of-cons session item further after;
  few = omega (arith, k.few, ap length i, length-append list (item ∷ further));
}

-- where a longer packet file is at the front of the same bytes, one more record is
pub longer_front : (session other : SessionData) (list others : List Item) (front rest begin after : List ℕ)
    → IsPacketFile session list front → IsPacketFile other others begin → front ++ rest ≡ begin ++ after
    → length front < length begin → NextRecord session list front rest
longer_front session other list others front rest begin after h k e l =
    let f = further_items session other list others front rest begin after h k e (omega arith) in
    next_record session other list others front rest begin after f.further h k l f.same_session f.items f.records f.places

-- ---- the laws

records_of-some : (session : SessionData) (list : List Item) → length (records_of session list) ≡ 0 → list ≡ []
records_of-some session [] e = refl
records_of-some session (item ∷ list) e =
    absurd (omega (arith, record_of-some session item, length-append (record_of session item) (records_of session list)))

-- bytes that stand for a session and items, and bytes after them that go on as a packet file
pub longer_file : (session other : SessionData) (list others : List Item) (bytes more : List ℕ)
    → IsPacketFile session list bytes → IsPacketFile other others (bytes ++ more)
    → (session ≡ other) × ((further : List Item) × (others ≡ list ++ further))
longer_file session other list others bytes more h k =
    let f = further_items session other list others bytes more (bytes ++ more) [] h k (sym (append-nil (bytes ++ more))) (omega (arith, length-append bytes more)) in
    (f.same_session, (f.further, f.items))

-- two packet files of one length at the front of the same bytes are the same
pub same_files : (session other : SessionData) (list others : List Item) (front rest begin after : List ℕ)
    → IsPacketFile session list front → IsPacketFile other others begin → front ++ rest ≡ begin ++ after
    → length front ≡ length begin → (session ≡ other) × (list ≡ others) × (front ≡ begin) × (rest ≡ after)
same_files session other list others front rest begin after h k e l =
    let f = further_items session other list others front rest begin after h k e (omega arith) in
    let parts = same_parts front begin rest after l e in
    let size : length rest ≡ length (records_of session f.further) + length after = ap length f.records ∙ length-append (records_of session f.further) after in
    let none : f.further ≡ [] = records_of-some session f.further (omega (arith, ap length parts.rest)) in
    (f.same_session, sym (f.items ∙ ap (λ (x : List Item). list ++ x) none ∙ append-nil list), parts.front, parts.rest)

-- bytes stand for one session and one list of items
pub same_file : (session other : SessionData) (list others : List Item) (bytes : List ℕ)
    → IsPacketFile session list bytes → IsPacketFile other others bytes → (session ≡ other) × (list ≡ others)
same_file session other list others bytes h k =
    let s = same_files session other list others bytes [] bytes [] h k refl refl in
    (s.0, s.1)

-- ---- one next record

-- of two files that are one list and one item more, the shorter one's item is the other's
same_next : (session : SessionData) (list : List Item) (item other : Item) (a b x y : List ℕ)
    → IsPacketFile session (list ++ item ∷ []) a → IsPacketFile session (list ++ other ∷ []) b → a ++ x ≡ b ++ y
    → length a ≤ length b → (item ≡ other) × (a ≡ b)
same_next session list item other a b x y h k e l =
    let f = further_of session (list ++ item ∷ []) (list ++ other ∷ []) a x b y h k e l in
    let both : other ∷ [] ≡ item ∷ f.further = append_cancel_left list (other ∷ []) (item ∷ f.further) (f.items ∙ append_assoc list (item ∷ []) f.further) in
    let same : item ≡ other = cc in
    (same, h.records ∙ ap (λ (i : Item). records_of session (list ++ i ∷ [])) same ∙ sym k.records)

-- after the items of a packet file at most one record goes on as one
pub one_next : (session : SessionData) (list : List Item) (item other : Item) (a b x y : List ℕ)
    → IsPacketFile session (list ++ item ∷ []) a → IsPacketFile session (list ++ other ∷ []) b → a ++ x ≡ b ++ y
    → (item ≡ other) × (a ≡ b)
one_next session list item other a b x y h k e = elim (cases_lt (length a) (length b)) [
  | inl shorter ↦ same_next session list item other a b x y h k e (omega arith)
  | inr within ↦
      let s = same_next session list other item b a y x k h (sym e) within in (sym s.0, sym s.1)
]
