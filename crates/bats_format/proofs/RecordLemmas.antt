-- The records of a session: how long they are, how they begin, and that their bytes say what they are the record of.
use Rattle.std.proofs.Common.{ℕ, ◌≡◌, ◌+◌, ◌*◌, ◌^◌, ◌<◌, ◌≤◌, ◌∙◌, sym, ap, refl, Bool, true, false, List, [], ◌∷◌, ◌++◌, length, get_or, append_assoc, arith}
use Rattle.std.specs.Prelude.{if◌then◌else◌}
use Rattle.std.specs.Int.{w16, w32, w64, to_be_bytes, from_be_bytes}
use Rattle.std.proofs.lemmas.List.{length-append, append_cancel_left}
use Rattle.std.proofs.lemmas.Grind.{div_ceil_times}
use Rattle.std.proofs.lemmas.Nat.{mul-le, from_be_bytes-to_be_bytes_2, from_be_bytes-to_be_bytes_4, from_be_bytes-to_be_bytes_8}
use Rattle.bats_model.specs.Session.{SessionData, IsSession, symbols_of}
use Rattle.bats_model.specs.Records.{header_record, packet_record, header_tag, packet_tag, version, mode_of}
use Rattle.bats_model.specs.PacketFile.{HasShape, IsItemAt, record_of}
use Rattle.bats_model.specs.declared.packet.Packet.{Packet}
use Rattle.bats_model.specs.declared.item.Item.{Item}
use Rattle.bats_model.specs.declared.item.Item.TheVariants as items

-- ---- fronts of one length

pub record AreSameParts (a b x y : List ℕ) : Type 0 where
  pub front : a ≡ b
  pub rest : x ≡ y

parts-more : (d e : ℕ) (a b x y : List ℕ) → d ≡ e → AreSameParts a b x y → AreSameParts (d ∷ a) (e ∷ b) x y
parts-more d e a b x y h p = record { front = cc; rest = p.rest }

-- two ways to cut a list after the same number of bytes are one
pub same_parts : (a b x y : List ℕ) → length a ≡ length b → a ++ x ≡ b ++ y → AreSameParts a b x y
same_parts [] [] x y l e = record { front = refl; rest = e }
same_parts [] (d ∷ b) x y l e = absurd (omega arith)
same_parts (d ∷ a) [] x y l e = absurd (omega arith)
same_parts (d ∷ a) (c ∷ b) x y l e = parts-more d c a b x y (cc) (same_parts a b x y (omega arith) (cc))

-- ---- the header

pub length-header_record : (session : SessionData) → IsSession session → length (header_record session) ≡ 32
unfolding header_record
length-header_record session h = omega (arith, h.seed)

-- what follows the first byte of a header
abbrev pub header_rest : SessionData → List ℕ
header_rest session = 84 ∷ 83 ∷ version ∷ session.m ∷ mode_of session ∷ (to_be_bytes w16 session.t ++ (to_be_bytes w64 session.file_length ++ session.seed))

pub header_record-begins : (session : SessionData) → header_record session ≡ header_tag ∷ header_rest session
unfolding header_record
header_record-begins session = refl

pub file_length-fits : (session : SessionData) → IsSession session → session.file_length < 2 ^ 64
file_length-fits session h =
    let covered : session.file_length ≤ symbols_of session * session.t = (div_ceil_times session.file_length session.t (omega (arith, h.t_low))).0 in
    let most : symbols_of session * session.t ≤ 4096 * 2048 = mul-le (symbols_of session) session.t 4096 2048 h.symbols h.t_high in
    omega arith

same_mode : (a b : Bool) (i j : ℕ) → i < 2 → j < 2 → (if a then 128 else 0) + i ≡ (if b then 128 else 0) + j → (a ≡ b) × (i ≡ j)
same_mode true true i j h k e = (refl, omega arith)
same_mode true false i j h k e = absurd (omega arith)
same_mode false true i j h k e = absurd (omega arith)
same_mode false false i j h k e = (refl, omega arith)

to_be_bytes_2-injective : (m n : ℕ) → m < 2 ^ 16 → n < 2 ^ 16 → to_be_bytes w16 m ≡ to_be_bytes w16 n → m ≡ n
to_be_bytes_2-injective m n h k e =
    sym (from_be_bytes-to_be_bytes_2 m h) ∙ ap (λ (x : List ℕ). from_be_bytes w16 x) e ∙ from_be_bytes-to_be_bytes_2 n k

to_be_bytes_4-injective : (m n : ℕ) → m < 2 ^ 32 → n < 2 ^ 32 → to_be_bytes w32 m ≡ to_be_bytes w32 n → m ≡ n
to_be_bytes_4-injective m n h k e =
    sym (from_be_bytes-to_be_bytes_4 m h) ∙ ap (λ (x : List ℕ). from_be_bytes w32 x) e ∙ from_be_bytes-to_be_bytes_4 n k

to_be_bytes_8-injective : (m n : ℕ) → m < 2 ^ 64 → n < 2 ^ 64 → to_be_bytes w64 m ≡ to_be_bytes w64 n → m ≡ n
to_be_bytes_8-injective m n h k e =
    sym (from_be_bytes-to_be_bytes_8 m h) ∙ ap (λ (x : List ℕ). from_be_bytes w64 x) e ∙ from_be_bytes-to_be_bytes_8 n k

-- the bytes of a header before its two numbers
abbrev header_front : SessionData → List ℕ
header_front session = header_tag ∷ 84 ∷ 83 ∷ version ∷ session.m ∷ mode_of session ∷ []

same_front : (m n i j : ℕ) → header_tag ∷ 84 ∷ 83 ∷ version ∷ m ∷ i ∷ [] ≡ header_tag ∷ 84 ∷ 83 ∷ version ∷ n ∷ j ∷ [] → (m ≡ n) × (i ≡ j)
same_front m n i j e = (cc, cc)

same_session : (a b : SessionData) → a.m ≡ b.m → a.t ≡ b.t → a.file_length ≡ b.file_length → a.table ≡ b.table → a.systematic ≡ b.systematic → a.seed ≡ b.seed → a ≡ b
same_session a b m t l k s d = λ i. record { m = m i; t = t i; file_length = l i; table = k i; systematic = s i; seed = d i }

pub record AreSameHeaders (a b : SessionData) (x y : List ℕ) : Type 0 where
  pub session : a ≡ b
  pub rest : x ≡ y

-- a header's bytes say which session it is of
pub same_headers : (a b : SessionData) (x y : List ℕ) → IsSession a → IsSession b → header_record a ++ x ≡ header_record b ++ y → AreSameHeaders a b x y
unfolding header_record
same_headers a b x y h k e =
    let e0 : header_front a ++ (to_be_bytes w16 a.t ++ (to_be_bytes w64 a.file_length ++ (a.seed ++ x))) ≡ header_front b ++ (to_be_bytes w16 b.t ++ (to_be_bytes w64 b.file_length ++ (b.seed ++ y))) = e in
    let p0 = same_parts (header_front a) (header_front b) _ _ refl e0 in
    let p1 = same_parts (to_be_bytes w16 a.t) (to_be_bytes w16 b.t) _ _ refl p0.rest in
    let p2 = same_parts (to_be_bytes w64 a.file_length) (to_be_bytes w64 b.file_length) _ _ refl p1.rest in
    let p3 = same_parts a.seed b.seed x y (h.seed ∙ sym k.seed) p2.rest in
    let front = same_front a.m b.m (mode_of a) (mode_of b) p0.front in
    let mode = same_mode a.systematic b.systematic a.table b.table h.table k.table front.1 in
    record {
      session = same_session a b front.0
          (to_be_bytes_2-injective a.t b.t (omega (arith, h.t_high)) (omega (arith, k.t_high)) p1.front)
          (to_be_bytes_8-injective a.file_length b.file_length (file_length-fits a h) (file_length-fits b k) p2.front)
          mode.1 mode.0 p3.front;
      rest = p3.rest;
    }

-- ---- packets

pub length-packet_record : (session : SessionData) (packet : Packet) → HasShape session packet
    → length (packet_record packet.batch packet.coefs packet.payload) ≡ 5 + session.m + session.t
unfolding packet_record
length-packet_record session packet h =
    omega (arith, length-append packet.coefs packet.payload, h.coefs, h.payload)

-- a packet's record after its first byte
abbrev pub packet_rest : Packet → List ℕ
packet_rest packet = to_be_bytes w32 packet.batch ++ (packet.coefs ++ packet.payload)

pub packet_record-begins : (packet : Packet) → packet_record packet.batch packet.coefs packet.payload ≡ packet_tag ∷ packet_rest packet
unfolding packet_record
packet_record-begins packet = refl

same_packet : (p q : Packet) → p.batch ≡ q.batch → p.coefs ≡ q.coefs → p.payload ≡ q.payload → p ≡ q
same_packet p q b c d = λ i. record { batch = b i; coefs = c i; payload = d i }

pub record AreSamePackets (p q : Packet) (x y : List ℕ) : Type 0 where
  pub packet : p ≡ q
  pub rest : x ≡ y

-- a packet's record says which packet of the session it is of
pub same_packets : (session : SessionData) (p q : Packet) (x y : List ℕ) → HasShape session p → HasShape session q
    → packet_record p.batch p.coefs p.payload ++ x ≡ packet_record q.batch q.coefs q.payload ++ y → AreSamePackets p q x y
unfolding packet_record
same_packets session p q x y h k e =
    let regroup : (r : Packet) (z : List ℕ) → (packet_tag ∷ to_be_bytes w32 r.batch) ++ (r.coefs ++ (r.payload ++ z)) ≡ packet_record r.batch r.coefs r.payload ++ z = λ r z. rw (← append_assoc r.coefs r.payload z) refl in
    let p0 = same_parts (packet_tag ∷ to_be_bytes w32 p.batch) (packet_tag ∷ to_be_bytes w32 q.batch) _ _ refl (regroup p x ∙ e ∙ sym (regroup q y)) in
    let p1 = same_parts p.coefs q.coefs (p.payload ++ x) (q.payload ++ y) (h.coefs ∙ sym k.coefs) p0.rest in
    let p2 = same_parts p.payload q.payload x y (h.payload ∙ sym k.payload) p1.rest in
    record {
      packet = same_packet p q (to_be_bytes_4-injective p.batch q.batch h.batch k.batch (cc)) p1.front p2.front;
      rest = p2.rest;
    }

-- ---- items

other_tags : (session : SessionData) (packet : Packet) (x y : List ℕ) → header_record session ++ x ≡ packet_record packet.batch packet.coefs packet.payload ++ y → ⊥
unfolding header_record packet_record
other_tags session packet x y e =
    let tags : header_tag ≡ packet_tag = ap (λ (bytes : List ℕ). get_or bytes 0 0) e in omega arith

-- no record is empty
pub record_of-some : (session : SessionData) (item : Item) → 0 < length (record_of session item)
unfolding record_of header_record packet_record
record_of-some session (items.Header at) = omega arith
record_of-some session (items.Packet at packet) = omega arith

pub record AreSameItems (item other : Item) (x y : List ℕ) : Type 0 where
  pub same : item ≡ other
  pub rest : x ≡ y

-- the bytes at an offset say which item of the session is there
pub same_items : (session : SessionData) (offset : ℕ) (item other : Item) (x y : List ℕ)
    → IsItemAt session offset item → IsItemAt session offset other
    → record_of session item ++ x ≡ record_of session other ++ y → AreSameItems item other x y
unfolding record_of
same_items session offset (items.Header at) (items.Header at') x y h k e =
    record { same = ap (λ (n : ℕ). items.Header n) (h ∙ sym k); rest = append_cancel_left (header_record session) x y e }
same_items session offset (items.Header at) (items.Packet at' packet) x y h k e = absurd (other_tags session packet x y e)
same_items session offset (items.Packet at packet) (items.Header at') x y h k e = absurd (other_tags session packet y x (sym e))
same_items session offset (items.Packet at packet) (items.Packet at' packet') x y h k e =
    let p = same_packets session packet packet' x y h.1 k.1 e in
    let places : at ≡ at' = h.0 ∙ sym k.0 in
    record { same = cc; rest = p.rest }
