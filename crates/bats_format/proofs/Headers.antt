-- Header records, field by field: what a session's bytes hold, and which session bytes hold.
use Rattle.std.proofs.Common.{◌≡◌, ℕ, zero, suc, ◌+◌, ◌%◌, ◌<◌, ◌≤◌, Bool, true, false, not, nat_le, ◌==◌, ◌&&◌, cond, List, [], ◌∷◌, ◌++◌, length, take, drop, get_or, slice_index, codes, Option, Some, None, Result, IsErrOf, ◌↔◌, ◌⊎◌, subst, ap₂, refl, sym, ap, ◌∙◌, arith}
use Rattle.std.proofs.Math.Seq.{drop-cons}
use Rattle.std.proofs.lemmas.List.{append-nil, drop-drop, take-append-drop, length-take, length-drop, get_or-drop}
use Rattle.std.proofs.lemmas.Bool.{not-false}
use Rattle.std.proofs.lemmas.Bool.Decides.{nat_tests}
use Rattle.std.proofs.lemmas.Nat.{from_be_bytes-to_be_bytes_2, from_be_bytes-to_be_bytes_8}
use Rattle.std.proofs.lemmas.Slice.Eq.{bytes_eq-Decides}
use Rattle.std.specs.Int.{w16, w64, to_be_bytes}
use Rattle.bats_model.specs.declared.session.BadSession.{BadSession}
use Rattle.bats_model.specs.declared.session.BadSession.TheVariants as ends
use Rattle.bats_model.specs.Session.{SessionData, IsSession, symbol_count}
use Rattle.bats_model.specs.Records.{header_record, mode_of}
use Rattle.bats_model.specs.Refusal.{first_broken, symbol_size_in, length_in}
use Rattle.bats_format.proofs.Numbers.{bytes-two, bytes-eight}
use Rattle.bats_format.proofs.RecordLemmas.{file_length-fits}

-- the session that 32 bytes hold
abbrev pub session_of : List ℕ → SessionData
session_of bytes = record {
  m = slice_index bytes 4;
  t = symbol_size_in bytes;
  file_length = length_in bytes;
  table = slice_index bytes 5 % 128;
  systematic = nat_le 128 (slice_index bytes 5);
  seed = drop 16 bytes;
}

-- every field's rule is kept
pub record KeepsRules (bytes : List ℕ) : Type 0 where
  pub magic : take 3 bytes ≡ codes "BTS"
  pub version : slice_index bytes 3 ≡ 1
  pub m_low : 1 ≤ slice_index bytes 4
  pub m_high : slice_index bytes 4 ≤ 32
  pub mode : slice_index bytes 5 % 128 ≤ 1
  pub t_low : 1 ≤ symbol_size_in bytes
  pub t_high : symbol_size_in bytes ≤ 2048
  pub symbols : symbol_count (length_in bytes) (symbol_size_in bytes) ≤ 4096

-- ---- the tests of the fields

equal-test : (n k : ℕ) → not (n == k) ≡ false → n ≡ k
equal-test n k h = grind (arith, nat_tests)

equal-passes : (n k : ℕ) → n ≡ k → not (n == k) ≡ false
equal-passes n k h = grind (arith, nat_tests)

most-test : (n most : ℕ) → not (nat_le n most) ≡ false → n ≤ most
most-test n most h = grind (arith, nat_tests)

most-passes : (n most : ℕ) → n ≤ most → not (nat_le n most) ≡ false
most-passes n most h = grind (arith, nat_tests)

range-test : (n most : ℕ) → not (nat_le 1 n && nat_le n most) ≡ false → (1 ≤ n) × (n ≤ most)
range-test n most h = grind (arith, nat_tests)

range-passes : (n most : ℕ) → 1 ≤ n → n ≤ most → not (nat_le 1 n && nat_le n most) ≡ false
range-passes n most low high = grind (arith, nat_tests)

-- a test that was passed, and the tests after it
pub passed : {X : Type 0} (test : Bool) (x : X) (rest : Option X) → cond test (Some x) rest ≡ None → (test ≡ false) × (rest ≡ None)
passed true x rest none = cc
passed false x rest none = (refl, none)

pub pass : {X : Type 0} (test : Bool) (x : X) (rest : Option X) → test ≡ false → rest ≡ None → cond test (Some x) rest ≡ None
pass true x rest h none = cc
pass false x rest h none = none

pub KeepsRules-from_none : (bytes : List ℕ) → first_broken bytes ≡ None → KeepsRules bytes
unfolding first_broken
KeepsRules-from_none bytes none =
    let magic = passed _ _ _ none in
    let version = passed _ _ _ magic.1 in
    let m = passed _ _ _ version.1 in
    let mode = passed _ _ _ m.1 in
    let t = passed _ _ _ mode.1 in
    let symbols = passed _ _ _ t.1 in
    let m_range = range-test (slice_index bytes 4) 32 m.0 in
    let t_range = range-test (symbol_size_in bytes) 2048 t.0 in
    record {
      magic = (bytes_eq-Decides (take 3 bytes) (codes "BTS")).0 (not-false _ magic.0);
      version = equal-test (slice_index bytes 3) 1 version.0;
      m_low = m_range.0;
      m_high = m_range.1;
      mode = most-test (slice_index bytes 5 % 128) 1 mode.0;
      t_low = t_range.0;
      t_high = t_range.1;
      symbols = most-test (symbol_count (length_in bytes) (symbol_size_in bytes)) 4096 symbols.0;
    }

pub none-from_KeepsRules : (bytes : List ℕ) → KeepsRules bytes → first_broken bytes ≡ None
unfolding first_broken
none-from_KeepsRules bytes keeps =
    pass _ _ _ (ap not ((bytes_eq-Decides (take 3 bytes) (codes "BTS")).1 keeps.magic))
    (pass _ _ _ (equal-passes (slice_index bytes 3) 1 keeps.version)
    (pass _ _ _ (range-passes (slice_index bytes 4) 32 keeps.m_low keeps.m_high)
    (pass _ _ _ (most-passes (slice_index bytes 5 % 128) 1 keeps.mode)
    (pass _ _ _ (range-passes (symbol_size_in bytes) 2048 keeps.t_low keeps.t_high)
    (pass _ _ _ (most-passes (symbol_count (length_in bytes) (symbol_size_in bytes)) 4096 keeps.symbols) refl)))))

-- ---- from bytes to a session

-- the parts of 32 bytes
parts : (bytes : List ℕ) → length bytes ≡ 32
    → take 3 bytes ++ (get_or bytes 3 0 ∷ get_or bytes 4 0 ∷ get_or bytes 5 0 ∷ (take 2 (drop 6 bytes) ++ (take 8 (drop 8 bytes) ++ drop 16 bytes))) ≡ bytes
parts bytes count =
    let all = take-append-drop 3 bytes in
    let three = drop-cons bytes 3 0 (omega arith) in
    let four = drop-cons bytes 4 0 (omega arith) in
    let five = drop-cons bytes 5 0 (omega arith) in
    let six = take-append-drop 2 (drop 6 bytes) in
    let past_six = drop-drop 2 6 bytes in
    let eight = take-append-drop 8 (drop 8 bytes) in
    let past_eight = drop-drop 8 8 bytes in
    cc

-- the parts of a header record, grouped to the right
header_record-parts : (session : SessionData) → header_record session
    ≡ codes "BTS" ++ (1 ∷ session.m ∷ mode_of session ∷ (to_be_bytes w16 session.t ++ (to_be_bytes w64 session.file_length ++ session.seed)))
unfolding header_record
header_record-parts session = refl

mode-of_byte : (byte : ℕ) → byte < 256 → cond (nat_le 128 byte) 128 0 + byte % 128 ≡ byte
mode-of_byte byte small = grind (arith, nat_tests)

pub small-drop : (n : ℕ) (bytes : List ℕ) → ((i : ℕ) → get_or bytes i 0 < 256) → (i : ℕ) → get_or (drop n bytes) i 0 < 256
small-drop n bytes small i = rw (get_or-drop n bytes i 0) (small (n + i))

pub small-take : (n : ℕ) (bytes : List ℕ) → ((i : ℕ) → get_or bytes i 0 < 256) → (i : ℕ) → get_or (take n bytes) i 0 < 256
small-take zero bytes small i = omega arith
small-take (suc n) [] small i = omega arith
small-take (suc n) (byte ∷ bytes) small zero = small 0
small-take (suc n) (byte ∷ bytes) small (suc i) = small-take n bytes (λ k. small (suc k)) i

-- the bytes are the record of the session that they hold
pub header_record-of_bytes : (bytes : List ℕ) → length bytes ≡ 32 → ((i : ℕ) → get_or bytes i 0 < 256) → KeepsRules bytes
    → header_record (session_of bytes) ≡ bytes
header_record-of_bytes bytes count small keeps =
    let two : List ℕ = take 2 (drop 6 bytes) in
    let eight : List ℕ = take 8 (drop 8 bytes) in
    let t : to_be_bytes w16 (symbol_size_in bytes) ≡ two =
    bytes-two two (omega (arith, length-take {A = ℕ}, length-drop {A = ℕ})) (small-take 2 (drop 6 bytes) (small-drop 6 bytes small)) in
    let file_length : to_be_bytes w64 (length_in bytes) ≡ eight =
    bytes-eight eight (omega (arith, length-take {A = ℕ}, length-drop {A = ℕ})) (small-take 8 (drop 8 bytes) (small-drop 8 bytes small)) in
    let mode = mode-of_byte (get_or bytes 5 0) (small 5) in
    header_record-parts (session_of bytes)
    ∙ cc (parts bytes count, keeps.magic, keeps.version, t, file_length, mode)

-- ---- from a session to bytes

mode-table : (systematic : Bool) (table : ℕ) → table < 2 → (cond systematic 128 0 + table) % 128 ≡ table
mode-table true table low = omega arith
mode-table false table low = omega arith

mode-systematic : (systematic : Bool) (table : ℕ) → table < 2 → nat_le 128 (cond systematic 128 0 + table) ≡ systematic
mode-systematic true table low = grind (arith, nat_tests)
mode-systematic false table low = grind (arith, nat_tests)

symbol_size-header_record : (session : SessionData) → IsSession session → symbol_size_in (header_record session) ≡ session.t
unfolding header_record
symbol_size-header_record session is = from_be_bytes-to_be_bytes_2 session.t (let h = is.t_high in omega arith)

length-header_record : (session : SessionData) → IsSession session → length_in (header_record session) ≡ session.file_length
unfolding header_record
length-header_record session is = from_be_bytes-to_be_bytes_8 session.file_length (file_length-fits session is)

pub session_of-header_record : (session : SessionData) → IsSession session → session_of (header_record session) ≡ session
unfolding header_record
session_of-header_record session is =
    let t = symbol_size-header_record session is in
    let file_length = length-header_record session is in
    let table = mode-table session.systematic session.table is.table in
    let systematic = mode-systematic session.systematic session.table is.table in
    rw (t, file_length, table, systematic) refl

pub KeepsRules-header_record : (session : SessionData) → IsSession session → KeepsRules (header_record session)
unfolding header_record
KeepsRules-header_record session is =
    let t = symbol_size-header_record session is in
    let file_length = length-header_record session is in
    record {
      magic = refl;
      version = refl;
      m_low = is.m_low;
      m_high = is.m_high;
      mode = let h = is.table in let same = mode-table session.systematic session.table h in omega arith;
      t_low = rw t is.t_low;
      t_high = rw t is.t_high;
      symbols = rw (t, file_length) is.symbols;
    }

-- ---- as the code has them

-- the bytes that are put together from the written numbers
pub header_record-written : (session : SessionData) (m mode : ℕ) (t file_length seed : List ℕ)
    → m ≡ session.m → mode ≡ mode_of session → t ≡ to_be_bytes w16 session.t
    → file_length ≡ to_be_bytes w64 session.file_length → seed ≡ session.seed
    → 66 ∷ 84 ∷ 83 ∷ 1 ∷ m ∷ mode ∷ get_or t 0 0 ∷ get_or t 1 0
    ∷ get_or file_length 0 0 ∷ get_or file_length 1 0 ∷ get_or file_length 2 0 ∷ get_or file_length 3 0
    ∷ get_or file_length 4 0 ∷ get_or file_length 5 0 ∷ get_or file_length 6 0 ∷ get_or file_length 7 0
    ∷ (seed ++ []) ≡ header_record session
unfolding header_record
header_record-written session m mode t file_length seed p q r s u = rw (p, q, r, s, u, append-nil) refl

pub none-from_record : (session : SessionData) (bytes : List ℕ) → IsSession session → bytes ≡ header_record session → first_broken bytes ≡ None
none-from_record session bytes is same =
    none-from_KeepsRules bytes (subst KeepsRules (sym same) (KeepsRules-header_record session is))

-- no session of a header that keeps the rules is refused
pub not-bad_session : (bytes : List ℕ) (t size : ℕ) (refused : BadSession) (r : Result SessionData BadSession)
    → IsErrOf r refused → KeepsRules bytes → t ≡ symbol_size_in bytes → size ≡ length_in bytes
    → (IsErrOf r ends.BatchSize ↔ ((slice_index bytes 4 ≡ 0) ⊎ (32 < slice_index bytes 4)))
    → (IsErrOf r ends.SymbolSize ↔ ((1 ≤ slice_index bytes 4) × (slice_index bytes 4 ≤ 32) × ((t ≡ 0) ⊎ (2048 < t))))
    → (IsErrOf r ends.Table
    ↔ ((1 ≤ slice_index bytes 4) × (slice_index bytes 4 ≤ 32) × (1 ≤ t) × (t ≤ 2048) × (2 ≤ slice_index bytes 5 % 128)))
    → ((symbols : ℕ) → IsErrOf r (ends.TooLong symbols)
    ↔ ((1 ≤ slice_index bytes 4) × (slice_index bytes 4 ≤ 32) × (1 ≤ t) × (t ≤ 2048) × (slice_index bytes 5 % 128 < 2)
    × (4096 < symbols) × (symbols ≡ symbol_count size t)))
    → ⊥
not-bad_session bytes t size ends.BatchSize r is keeps same_t same_size m t_range table long =
    let h = m.0 is in let low = keeps.m_low in let high = keeps.m_high in grind arith
not-bad_session bytes t size ends.SymbolSize r is keeps same_t same_size m t_range table long =
    let h = (t_range.0 is).2 in let low = keeps.t_low in let high = keeps.t_high in grind arith
not-bad_session bytes t size ends.Table r is keeps same_t same_size m t_range table long =
    let h = (table.0 is).4 in let low = keeps.mode in omega arith
not-bad_session bytes t size (ends.TooLong symbols) r is keeps same_t same_size m t_range table long =
    let above = ((long symbols).0 is).5 in let h = ((long symbols).0 is).6 in
    let count = ap₂ symbol_count same_size same_t in
    let few = keeps.symbols in omega arith
