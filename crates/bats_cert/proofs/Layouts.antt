-- Layouts: what the bytes of a certificate's parts leave of them, and where they stop.
use Rattle.std.proofs.Common.{◌≡◌, ◌≢◌, ℕ, suc, ◌+◌, ◌<◌, ◌≤◌, ◌==◌, nat_le, nat_lt, Bool, true, false, List, [], ◌∷◌, ◌++◌, length, take, drop, slice_index, Some, None, is_none, All, flat_map, refl, ap, subst, ◌∙◌, append_assoc, length-append, arith}
use Rattle.std.proofs.lemmas.Bool.Decides.{nat_tests}
use Rattle.std.proofs.lemmas.Nat.{from_be_bytes-to_be_bytes_2, from_be_bytes-to_be_bytes_4}
use Rattle.std.specs.Int.{w16, w32, to_be_bytes, from_be_bytes}
use Rattle.bats_model.specs.Session.{SessionData, IsSession, symbols_of}
use Rattle.bats_model.specs.Records.{header_record, packet_record, packet_tag}
use Rattle.bats_model.specs.Refusal.{first_broken}
use Rattle.bats_model.specs.PacketFile.{HasShape}
use Rattle.bats_model.specs.declared.packet.Packet.{Packet}
use Rattle.bats_format.proofs.Headers.{session_of-header_record, none-from_record}
use Rattle.bats_format.proofs.RecordLemmas.{length-header_record, length-packet_record}
use Rattle.bats_cert.specs.Shown.{most_listed}
use Rattle.bats_cert.specs.CertificateFile.{Layout, field, fields, any, certificate_tag, begin_bytes, packets_bytes, rows_bytes, session_in, header_field, tag_field, kind_field, count_field, packet_fields, symbol_field, column_field, begin_fields}
use Rattle.bats_cert.specs.steps.Parts.{GoesOn}
use Rattle.bats_cert.specs.steps.Taken.{byte_of}
use Rattle.bats_cert.specs.declared.beginning.Kind.{Kind}
use Rattle.bats_cert.specs.declared.beginning.Kind.TheVariants as kinds

take-front : (xs ys : List ℕ) → take (length xs) (xs ++ ys) ≡ xs
take-front [] ys = refl
take-front (x ∷ xs) ys = ap (λ (l : List ℕ). x ∷ l) (take-front xs ys)

drop-front : (xs ys : List ℕ) → drop (length xs) (xs ++ ys) ≡ ys
drop-front [] ys = refl
drop-front (x ∷ xs) ys = drop-front xs ys

le-true : (m n : ℕ) → m ≤ n → nat_le m n ≡ true
le-true m n h = grind (arith, nat_tests)

pub le-false : (m n : ℕ) → n < m → nat_le m n ≡ false
le-false m n h = grind (arith, nat_tests)

lt-true : (m n : ℕ) → m < n → nat_lt m n ≡ true
lt-true m n h = grind (arith, nat_tests)

pub lt-false : (m n : ℕ) → n ≤ m → nat_lt m n ≡ false
lt-false m n h = grind (arith, nat_tests)

pub eq-false : (m n : ℕ) → m ≢ n → (m == n) ≡ false
eq-false m n h = grind (arith, nat_tests)

-- ---- one field

goes : (rule : List ℕ → Bool) (next : List ℕ → Layout) (bytes : List ℕ) → rule bytes ≡ true → GoesOn (field (length bytes) rule next) bytes (next bytes)
unfolding field
goes rule next bytes right = record {
  same = λ at rest.
      let front : take (length bytes) (bytes ++ rest) ≡ bytes = take-front bytes rest in
      let back : drop (length bytes) (bytes ++ rest) ≡ rest = drop-front bytes rest in
      let within : nat_le (length bytes) (length (bytes ++ rest)) ≡ true = le-true (length bytes) (length (bytes ++ rest)) (omega (arith, length-append bytes rest)) in
      rw (front, back, within, right) refl;
}

-- bytes that are as many and keep the rule
pub field-goes : (size : ℕ) (rule : List ℕ → Bool) (next : List ℕ → Layout) (bytes : List ℕ) → length bytes ≡ size → rule bytes ≡ true
    → GoesOn (field size rule next) bytes (next bytes)
field-goes size rule next bytes count right = subst (λ (n : ℕ). GoesOn (field n rule next) bytes (next bytes)) count (goes rule next bytes right)

-- fewer bytes than the field has
pub field-cut : (size : ℕ) (rule : List ℕ → Bool) (next : List ℕ → Layout) (at : ℕ) (left : List ℕ) → length left < size
    → field size rule next at left ≡ Some at
unfolding field
field-cut size rule next at left short = rw (le-false size (length left) short) refl

-- bytes that break the rule
pub field-breaks : (rule : List ℕ → Bool) (next : List ℕ → Layout) (at : ℕ) (bytes rest : List ℕ) → rule bytes ≡ false
    → field (length bytes) rule next at (bytes ++ rest) ≡ Some at
unfolding field
field-breaks rule next at bytes rest wrong =
    let front : take (length bytes) (bytes ++ rest) ≡ bytes = take-front bytes rest in
    let within : nat_le (length bytes) (length (bytes ++ rest)) ≡ true = le-true (length bytes) (length (bytes ++ rest)) (omega (arith, length-append bytes rest)) in
    rw (front, within, wrong) refl

-- ---- one part after another

pub GoesOn-nothing : (layout : Layout) → GoesOn layout [] layout
GoesOn-nothing layout = record { same = λ at rest. let here : at ≡ at + 0 = omega arith in ap (λ (n : ℕ). layout n rest) here }

pub GoesOn-after : {a b c : Layout} (xs ys : List ℕ) → GoesOn a xs b → GoesOn b ys c → GoesOn a (xs ++ ys) c
GoesOn-after {a} {b} {c} xs ys p q = record {
  same = λ at rest.
      let here : at + length xs + length ys ≡ at + length (xs ++ ys) = omega (arith, length-append xs ys) in
      ap (λ (bytes : List ℕ). a at bytes) (append_assoc xs ys rest)
      ∙ p.same at (ys ++ rest) ∙ q.same (at + length xs) rest ∙ ap (λ (n : ℕ). c n rest) here;
}

-- fields of one size and one rule
pub fields-go : {X : Type 0} (bytes_of : X → List ℕ) (size : ℕ) (rule : List ℕ → Bool) (next : Layout) (xs : List X) (more : ℕ)
    → All (λ x. (length (bytes_of x) ≡ size) × (rule (bytes_of x) ≡ true)) xs
    → GoesOn (fields (length xs + more) size rule next) (flat_map bytes_of xs) (fields more size rule next)
unfolding fields
fields-go bytes_of size rule next [] more right =
    let none : more ≡ 0 + more = omega arith in
    subst (λ (n : ℕ). GoesOn (fields n size rule next) [] (fields more size rule next)) none (GoesOn-nothing (fields more size rule next))
fields-go bytes_of size rule next (x ∷ xs) more right =
    let one = right 0 x (omega arith) in
    let count : suc (length xs + more) ≡ suc (length xs) + more = omega arith in
    subst (λ (n : ℕ). GoesOn (fields n size rule next) (flat_map bytes_of (x ∷ xs)) (fields more size rule next)) count
    (GoesOn-after (bytes_of x) (flat_map bytes_of xs)
    (field-goes size rule (λ bytes. fields (length xs + more) size rule next) (bytes_of x) one.0 one.1)
    (fields-go bytes_of size rule next xs more (λ i d within. right (suc i) d (omega (arith, within)))))

-- ---- the parts of a certificate

pub header-goes : (session : SessionData) (next : SessionData → Layout) → IsSession session
    → GoesOn (header_field next) (header_record session) (next session)
header-goes session next is =
    let none : first_broken (header_record session) ≡ None = none-from_record session (header_record session) is refl in
    let same : session_in (header_record session) ≡ session = session_of-header_record session is in
    subst (λ (found : SessionData). GoesOn (header_field next) (header_record session) (next found)) same
    (field-goes 32 (λ bytes. is_none (first_broken bytes)) (λ bytes. next (session_in bytes)) (header_record session)
    (length-header_record session is) (ap is_none none))

pub tag-goes : (next : Layout) → GoesOn (tag_field next) (certificate_tag ∷ []) next
tag-goes next = field-goes 1 (λ bytes. slice_index bytes 0 == certificate_tag) (λ bytes. next) (certificate_tag ∷ []) refl refl

pub kind-goes : (next : ℕ → Layout) (kind : ℕ) → kind ≤ 2 → GoesOn (kind_field next) (kind ∷ []) (next kind)
kind-goes next kind h =
    field-goes 1 (λ bytes. nat_le (slice_index bytes 0) 2) (λ bytes. next (slice_index bytes 0)) (kind ∷ []) refl (le-true kind 2 h)

pub count-goes : (next : ℕ → Layout) (count : ℕ) → count ≤ most_listed → GoesOn (count_field next) (to_be_bytes w32 count) (next count)
count-goes next count h =
    let same = from_be_bytes-to_be_bytes_4 count (omega (arith, h)) in
    subst (λ (n : ℕ). GoesOn (count_field next) (to_be_bytes w32 count) (next n)) same
    (field-goes 4 (λ bytes. nat_le (from_be_bytes w32 bytes) most_listed) (λ bytes. next (from_be_bytes w32 bytes)) (to_be_bytes w32 count)
    refl (le-true (from_be_bytes w32 (to_be_bytes w32 count)) most_listed (omega (arith, same, h))))

pub byte_of-le : (kind : Kind) → byte_of kind ≤ 2
byte_of-le kinds.One = omega arith
byte_of-le kinds.Two = omega arith
byte_of-le kinds.Zero = omega arith

-- the parts before the packets, as they are read
pub begin_bytes-parts : (session : SessionData) (kind count : ℕ)
    → header_record session ++ certificate_tag ∷ [] ++ kind ∷ [] ++ to_be_bytes w32 count ≡ begin_bytes session kind count
unfolding begin_bytes
begin_bytes-parts session kind count =
    ap (λ (front : List ℕ). front ++ to_be_bytes w32 count) (append_assoc (header_record session) (certificate_tag ∷ []) (kind ∷ []))

-- up to each part before the packets
pub to_tag : (session : SessionData) (next : SessionData → ℕ → ℕ → Layout) → IsSession session
    → GoesOn (begin_fields next) (header_record session) (tag_field (kind_field (λ kind. count_field (next session kind))))
to_tag session next is = header-goes session (λ other. tag_field (kind_field (λ kind. count_field (next other kind)))) is

pub to_kind : (session : SessionData) (next : SessionData → ℕ → ℕ → Layout) → IsSession session
    → GoesOn (begin_fields next) (header_record session ++ certificate_tag ∷ []) (kind_field (λ kind. count_field (next session kind)))
to_kind session next is =
    GoesOn-after (header_record session) (certificate_tag ∷ []) (to_tag session next is)
    (tag-goes (kind_field (λ kind. count_field (next session kind))))

pub to_count : (session : SessionData) (kind : ℕ) (next : SessionData → ℕ → ℕ → Layout) → IsSession session → kind ≤ 2
    → GoesOn (begin_fields next) (header_record session ++ certificate_tag ∷ [] ++ kind ∷ []) (count_field (next session kind))
to_count session kind next is is_kind =
    GoesOn-after (header_record session ++ certificate_tag ∷ []) (kind ∷ []) (to_kind session next is)
    (kind-goes (λ other. count_field (next session other)) kind is_kind)

pub begin-goes : (session : SessionData) (kind count : ℕ) (next : SessionData → ℕ → ℕ → Layout) → IsSession session → kind ≤ 2 → count ≤ most_listed
    → GoesOn (begin_fields next) (begin_bytes session kind count) (next session kind count)
begin-goes session kind count next is is_kind few =
    subst (λ (bytes : List ℕ). GoesOn (begin_fields next) bytes (next session kind count)) (begin_bytes-parts session kind count)
    (GoesOn-after (header_record session ++ certificate_tag ∷ [] ++ kind ∷ []) (to_be_bytes w32 count)
    (to_count session kind next is is_kind) (count-goes (next session kind) count few))

-- one packet's record
packet-right : (packet : Packet) → (slice_index (packet_record packet.batch packet.coefs packet.payload) 0 == packet_tag) ≡ true
unfolding packet_record
packet-right packet = refl

pub packets-go : (session : SessionData) (next : Layout) (packets : List Packet) (more : ℕ) → All (HasShape session) packets
    → GoesOn (packet_fields session (length packets + more) next) (packets_bytes packets) (packet_fields session more next)
packets-go session next packets more shapes =
    fields-go (λ packet. packet_record packet.batch packet.coefs packet.payload) (5 + session.m + session.t) (λ bytes. slice_index bytes 0 == packet_tag) next packets more
    (λ i d within. (length-packet_record session _ (shapes i d within), packet-right _))

pub rows-go : (next : Layout) (cols : ℕ) (rows : List (List ℕ)) (more : ℕ) → All (λ row. length row ≡ cols) rows
    → GoesOn (fields (length rows + more) cols any next) (rows_bytes rows) (fields more cols any next)
rows-go next cols rows more widths = fields-go (λ row. row) cols any next rows more (λ i d within. (widths i d within, refl))

pub symbol-goes : (session : SessionData) (next : ℕ → Layout) (s : ℕ) → IsSession session → s < symbols_of session
    → GoesOn (symbol_field session next) (to_be_bytes w32 s) (next s)
symbol-goes session next s is h =
    let same = from_be_bytes-to_be_bytes_4 s (omega (arith, h, is.symbols)) in
    subst (λ (n : ℕ). GoesOn (symbol_field session next) (to_be_bytes w32 s) (next n)) same
    (field-goes 4 (λ bytes. nat_lt (from_be_bytes w32 bytes) (symbols_of session)) (λ bytes. next (from_be_bytes w32 bytes)) (to_be_bytes w32 s)
    refl (lt-true (from_be_bytes w32 (to_be_bytes w32 s)) (symbols_of session) (omega (arith, same, h))))

pub column-goes : (session : SessionData) (next : Layout) (column : ℕ) → IsSession session → column < session.t
    → GoesOn (column_field session next) (to_be_bytes w16 column) next
column-goes session next column is h =
    let same = from_be_bytes-to_be_bytes_2 column (omega (arith, h, is.t_high)) in
    field-goes 2 (λ bytes. nat_lt (from_be_bytes w16 bytes) session.t) (λ bytes. next) (to_be_bytes w16 column)
    refl (lt-true (from_be_bytes w16 (to_be_bytes w16 column)) session.t (omega (arith, same, h)))
