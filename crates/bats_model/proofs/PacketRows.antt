-- A file agrees with a packet exactly where, for each column, a linear function is 0 on the packet's row.
use Rattle.std.proofs.Common.{ℕ, ◌≡◌, ◌<◌, ◌≤◌, ◌+◌, ◌∙◌, ◌++◌, sym, ap, subst, List, length, get_or, arith}
use Rattle.std.proofs.lemmas.List.{get_or_append_left, get_or-append-add}
use Rattle.gf_core.specs.Field.{gf_add, gf_mul, gf_sum}
use Rattle.gf_core.proofs.AddLemmas.{gf_add_self, gf_add-eq-zero}
use Rattle.gf_core.proofs.SumLemmas.{gf_sum-congruence}
use Rattle.gf_core.proofs.LinearRows.{IsLinear, IsLinear-entry, IsLinear-front, IsLinear-gf_add}
use Rattle.bats_model.specs.Bytes.{AreBytes}
use Rattle.bats_model.specs.Session.{SessionData}
use Rattle.bats_model.specs.Batch.{batch_of}
use Rattle.bats_model.specs.Values.{combined_value}
use Rattle.bats_model.specs.Coded.{coded_byte}
use Rattle.bats_model.specs.Agreement.{IsFile, Agrees, combined_byte}
use Rattle.bats_model.specs.Kept.{packet_row}
use Rattle.bats_model.specs.PacketFile.{HasShape}
use Rattle.bats_model.specs.declared.packet.Packet.{Packet}
use Rattle.bats_model.proofs.SymbolValues.{coded_byte-lt}

-- what the first m entries of a row make of the coded bytes of a batch in column c
abbrev pub row_byte : SessionData → List ℕ → ℕ → ℕ → List ℕ → ℕ
row_byte session file batch c row =
    gf_sum session.m (λ j. gf_mul (get_or row j 0) (coded_byte session file (batch_of session batch) j c))

-- by how much that differs from the row's payload byte in this column
abbrev pub row_error : SessionData → List ℕ → ℕ → ℕ → List ℕ → ℕ
row_error session file batch c row = gf_add (get_or row (session.m + c) 0) (row_byte session file batch c row)

pub IsLinear-row_error : (session : SessionData) (file : List ℕ) (batch c : ℕ) → AreBytes file → c < session.t
    → IsLinear (session.m + session.t) (row_error session file batch c)
IsLinear-row_error session file batch c bytes column =
    let width : ℕ = session.m + session.t in
    IsLinear-gf_add width (λ row. get_or row (session.m + c) 0) (row_byte session file batch c)
    (IsLinear-entry width (session.m + c) (omega arith))
    (IsLinear-front width session.m (λ j. coded_byte session file (batch_of session batch) j c) (omega arith)
    (λ j within. coded_byte-lt session file batch j c bytes))

-- the coefficients of a row make the combination that its vector says
pub row_byte-front : (session : SessionData) (file : List ℕ) (batch c : ℕ) (coefs row : List ℕ)
    → ((j : ℕ) → j < session.m → get_or row j 0 ≡ get_or coefs j 0)
    → row_byte session file batch c row ≡ combined_byte session file batch coefs c
unfolding combined_value
row_byte-front session file batch c coefs row same =
    let byte : ℕ → ℕ = λ j. coded_byte session file (batch_of session batch) j c in
    gf_sum-congruence session.m (λ j. gf_mul (get_or row j 0) (byte j)) (λ j. gf_mul (get_or coefs j 0) (byte j))
    (λ j within. ap (λ (x : ℕ). gf_mul x (byte j)) (same j within))

row_error-packet : (session : SessionData) (file : List ℕ) (packet : Packet) (c : ℕ) → HasShape session packet
    → row_error session file packet.batch c (packet_row packet)
    ≡ gf_add (get_or packet.payload c 0) (combined_byte session file packet.batch packet.coefs c)
row_error-packet session file packet c shape =
    let row : List ℕ = packet.coefs ++ packet.payload in
    let place : get_or row (session.m + c) 0 ≡ get_or packet.payload c 0 =
    ap (λ (n : ℕ). get_or row (n + c) 0) (sym shape.coefs) ∙ get_or-append-add packet.coefs packet.payload c 0 in
    let front : row_byte session file packet.batch c row ≡ combined_byte session file packet.batch packet.coefs c =
    row_byte-front session file packet.batch c packet.coefs row
    (λ j within. get_or_append_left packet.coefs packet.payload 0 j (omega (arith, shape.coefs))) in
    ap (λ (x : ℕ). gf_add x (row_byte session file packet.batch c row)) place ∙ ap (gf_add (get_or packet.payload c 0)) front

-- a file that agrees with the packet
pub row_error-zero : (session : SessionData) (file : List ℕ) (packet : Packet) (c : ℕ) → HasShape session packet → c < session.t
    → Agrees session file packet → row_error session file packet.batch c (packet_row packet) ≡ 0
row_error-zero session file packet c shape column agrees =
    row_error-packet session file packet c shape
    ∙ ap (λ (x : ℕ). gf_add x (combined_byte session file packet.batch packet.coefs c)) (agrees.columns c column)
    ∙ gf_add_self (combined_byte session file packet.batch packet.coefs c)

-- and one that is such in each column
pub Agrees-zero : (session : SessionData) (file : List ℕ) (packet : Packet) → HasShape session packet → IsFile session file
    → ((c : ℕ) → c < session.t → row_error session file packet.batch c (packet_row packet) ≡ 0) → Agrees session file packet
Agrees-zero session file packet shape is zero = record {
  is_file = is;
  columns = λ c column. gf_add-eq-zero (get_or packet.payload c 0) (combined_byte session file packet.batch packet.coefs c)
      (sym (row_error-packet session file packet c shape) ∙ zero c column);
}
